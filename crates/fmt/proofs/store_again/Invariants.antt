-- The byte is written as often as the loop has turned.
use Rattle.std.proofs.Common.{replicate}
use Rattle.fmt.specs.Text.{Wrote}
use Rattle.fmt.proofs.store_again.Given as goal

abbrev pub invariant-loop : goal.invariant-loop
invariant-loop l = Wrote l.initial.out l.at-2 (replicate l.counter l.b) l.out l.at
