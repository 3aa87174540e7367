-- `describe_channel_group` meets its contract: the fields are those of the block's own bytes.
use Rattle.describe.proofs.Said.{cg_said}
use Rattle.describe.proofs.Written.{writes_as}
use Rattle.describe.proofs.descriptions.describe_channel_group.Goals as goal

pub returns : goal.returns
returns c = let said = cg_said c.requires c.fields_of-cg.ensures in writes_as c.put_format.ensures (cc)
