-- `walk_channel_conversion` meets its contract: nothing of the walker changes.
use Rattle.walk_state.proofs.Steps.{same_state}
use Rattle.walk_blocks.proofs.texts.walk_channel_conversion.Goals as goal

pub returns : goal.returns
returns c = same_state c.walk_conversion.ensures
