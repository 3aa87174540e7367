-- `describe_source` meets its contract: the fields are those of the block's own bytes.
use Rattle.describe.proofs.Said.{si_said}
use Rattle.describe.proofs.Written.{writes_as}
use Rattle.describe.proofs.descriptions.describe_source.Goals as goal

pub returns : goal.returns
returns c = let said = si_said c.requires c.fields_of-si.ensures in writes_as c.put_format.ensures (cc)
