-- `put_equal_length` meets its contract: the length if bit 0 of the flags is set, or nothing.
use Rattle.std.proofs.Common.{arith}
use Rattle.std.proofs.lemmas.Bool.Decides.{nat_tests}
use Rattle.fmt.proofs.Text.{writes_none}
use Rattle.describe.proofs.descriptions.put_equal_length.Goals as goal

pub returns-then-dl-eq1 : goal.returns-then-dl-eq1
returns-then-dl-eq1 c = rw c.if-dl-eq1.true c.put_format.ensures

pub returns-else-dl-eq1 : goal.returns-else-dl-eq1
returns-else-dl-eq1 c = grind (arith, nat_tests, writes_none)
