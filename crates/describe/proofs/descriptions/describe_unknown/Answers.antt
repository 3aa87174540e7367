-- `describe_unknown` meets its contract: a text that no field changes.
use Rattle.describe.proofs.Said.{ut_said}
use Rattle.describe.proofs.descriptions.describe_unknown.Goals as goal

pub returns : goal.returns
returns c = rw (ut_said c.requires) c.put_bytes.ensures
