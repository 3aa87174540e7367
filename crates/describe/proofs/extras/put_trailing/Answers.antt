-- `put_trailing` meets its contract: what is left, or nothing where that is 0.
use Rattle.fmt.proofs.Text.{writes_none}
use Rattle.std.proofs.Common.{◌≡◌, true, false, ltb, arith}
use Rattle.std.proofs.lemmas.Bool.Decides.{nat_tests}
use Rattle.mdf4.specs.Describe.{trailing_bytes}
use Rattle.describe.proofs.extras.put_trailing.Goals as goal

pub returns-then-rest-gt0 : goal.returns-then-rest-gt0
unfolding trailing_bytes
returns-then-rest-gt0 c = let some : ltb 0 c.args.rest ≡ true = grind (arith, nat_tests) in rw some c.put_format.ensures

pub returns-else-rest-gt0 : goal.returns-else-rest-gt0
unfolding trailing_bytes
returns-else-rest-gt0 c = let none : ltb 0 c.args.rest ≡ false = grind (arith, nat_tests) in rw none (writes_none _)
