-- `describe_text` meets its contract: a text that can be read is not refused, and it stands in the block's own bytes.
use Rattle.fmt.proofs.Text.{writes_then}
use Rattle.describe.proofs.Own.{own_read}
use Rattle.describe.proofs.Said.{tx_said}
use Rattle.describe.proofs.Written.{writes_as}
use Rattle.describe.proofs.descriptions.describe_text.Goals as goal

pub unreachable-requires : goal.unreachable-requires
unreachable-requires c = let read = own_read c.requires in let refused = c.in_default.ensures.refused in cc

pub returns : goal.returns
returns c =
    let said = tx_said c.requires c.in-Ok.ensures.read in
    writes_as (writes_then (writes_then c.put_bytes.ensures c.put_preview.ensures) c.put_format.ensures) (cc)
