-- `describe_unknown_data` meets its contract: a text that no field changes.
use Rattle.describe.proofs.Said.{ud_said}
use Rattle.describe.proofs.descriptions.describe_unknown_data.Goals as goal

pub returns : goal.returns
returns c = rw (ud_said c.requires) c.put_bytes.ensures
