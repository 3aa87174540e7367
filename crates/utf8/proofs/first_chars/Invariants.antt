-- The parts so far and those that are left are the text's (`Passed`), and the former and those to come are n.
use Rattle.std.proofs.Common.{◌≡◌, ◌+◌, length}
use Rattle.utf8.specs.Parts.{left}
use Rattle.utf8.proofs.Decoding.{Passed}
use Rattle.utf8.proofs.first_chars.Given as goal

abbrev pub invariant-loop-part : goal.invariant-loop-part
invariant-loop-part l = Passed l.text l.yielded (left l.part-iterator.iter) l.len × (length l.yielded + l.part-iterator.n ≡ l.n)
