-- `extra_channel_group` meets its contract: the fields are those of the block's own bytes.
use Rattle.describe.proofs.Lines.{cg_line}
use Rattle.describe.proofs.Written.{writes_as}
use Rattle.describe.proofs.extras.extra_channel_group.Goals as goal

pub returns : goal.returns
returns c = let said = cg_line c.requires c.fields_of-cg.ensures in writes_as c.put_line.ensures (cc)
