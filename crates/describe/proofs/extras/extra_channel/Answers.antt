-- `extra_channel` meets its contract: the fields are those of the block's own bytes.
use Rattle.describe.proofs.Lines.{cn_line}
use Rattle.describe.proofs.Written.{writes_as}
use Rattle.describe.proofs.extras.extra_channel.Goals as goal

pub returns : goal.returns
returns c = let said = cn_line c.requires c.fields_of-cn.ensures in writes_as c.put_line.ensures (cc)
