-- `describe_header` meets its contract: the fields are those of the block's own bytes.
use Rattle.std.proofs.Common.{rules}
use Rattle.fmt.proofs.Text.{writes_then}
use Rattle.describe.proofs.Said.{hd_said}
use Rattle.describe.proofs.Written.{signed_as}
use Rattle.describe.proofs.descriptions.describe_header.Goals as goal

pub returns : goal.returns
returns c =
    rw (hd_said c.requires c.fields_of-hd.ensures)
    (signed_as _ _ (writes_then (writes_then c.put_format.ensures c.put_i16.ensures) c.put_bytes.ensures) (search rules))
