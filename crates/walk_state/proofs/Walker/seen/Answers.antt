-- `Walker::seen` meets its contract: the offsets in use are the first of the table.
use Rattle.walk_state.specs.Within.{held}
use Rattle.walk_state.proofs.Walker.seen.Goals as goal

pub returns : goal.returns
unfolding held
returns c = c.seen.ensures
