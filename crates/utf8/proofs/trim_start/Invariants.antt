-- The parts so far and those that are left are the text's (`Passed`), and what is trimmed of those that are left is trimmed of all.
use Rattle.std.proofs.Common.{◌≡◌}
use Rattle.utf8.specs.Utf8.{chunks}
use Rattle.utf8.specs.White.{trim_start}
use Rattle.utf8.specs.Parts.{left}
use Rattle.utf8.proofs.Decoding.{Passed}
use Rattle.utf8.proofs.trim_start.Given as goal

abbrev pub invariant-loop-part : goal.invariant-loop-part
invariant-loop-part l = Passed l.text l.yielded (left l.part-iterator) l.start × (trim_start (left l.part-iterator) ≡ trim_start (chunks l.text))
