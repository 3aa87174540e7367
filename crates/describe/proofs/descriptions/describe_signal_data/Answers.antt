-- `describe_signal_data` meets its contract: the payload fills one template.
use Rattle.describe.proofs.Said.{sd_said}
use Rattle.describe.proofs.Written.{writes_as}
use Rattle.describe.proofs.descriptions.describe_signal_data.Goals as goal

pub returns : goal.returns
returns c = let said = sd_said c.requires in writes_as c.put_format.ensures (cc)
