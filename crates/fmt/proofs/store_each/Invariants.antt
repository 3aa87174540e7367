-- The bytes so far are written.
use Rattle.std.proofs.Common.{take}
use Rattle.fmt.specs.Text.{Wrote}
use Rattle.fmt.proofs.store_each.Given as goal

abbrev pub invariant-loop-b : goal.invariant-loop-b
invariant-loop-b l = Wrote l.initial.out l.at-2 (take l.b-index l.s) l.out l.at
