-- `check_target` meets its contract: the two cases of its test.
use Rattle.std.proofs.Common.{arith, ◌+◌, ◌^◌}
use borrow.Author.Tests.{lt-ltb, le-ltb}
use Rattle.mdf4.specs.Act.{check}
use Rattle.walk_state.proofs.check_target.Goals as goal

pub returns-then-is_none : goal.returns-then-is_none
unfolding check
returns-then-is_none c = rw (le-ltb (c.args.target + 4) (2 ^ 64) (grind arith))

pub returns : goal.returns
unfolding check
returns c = rw (lt-ltb (c.args.target + 4) (2 ^ 64) (grind arith))
