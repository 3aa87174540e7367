-- `describe_data` meets its contract: the payload fills one template.
use Rattle.describe.proofs.Said.{dt_said}
use Rattle.describe.proofs.Written.{writes_as}
use Rattle.describe.proofs.descriptions.describe_data.Goals as goal

pub returns : goal.returns
returns c = let said = dt_said c.requires in writes_as c.put_format.ensures (cc)
