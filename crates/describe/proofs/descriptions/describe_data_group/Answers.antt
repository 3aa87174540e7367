-- `describe_data_group` meets its contract: the fields are those of the block's own bytes.
use Rattle.describe.proofs.Said.{dg_said}
use Rattle.describe.proofs.Written.{writes_as}
use Rattle.describe.proofs.descriptions.describe_data_group.Goals as goal

pub returns : goal.returns
returns c = let said = dg_said c.requires c.fields_of-dg.ensures in writes_as c.put_format.ensures (cc)
