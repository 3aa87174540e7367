-- `extra_header` meets its contract: the fields are those of the block's own bytes.
use Rattle.describe.proofs.Lines.{hd_line}
use Rattle.describe.proofs.Written.{writes_as}
use Rattle.describe.proofs.extras.extra_header.Goals as goal

pub returns : goal.returns
returns c = let said = hd_line c.requires c.fields_of-hd.ensures in writes_as c.put_line.ensures (cc)
