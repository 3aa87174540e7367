-- The parts so far and those that are left are the text's (`Passed`), and `end` is where the former end once they are trimmed.
use Rattle.std.proofs.Common.{◌≡◌, ◌≤◌, map}
use Rattle.utf8.specs.White.{trim_end}
use Rattle.utf8.specs.Parts.{held, left}
use Rattle.utf8.proofs.Decoding.{Passed, size}
use Rattle.utf8.proofs.trim_end.Given as goal

abbrev pub invariant-loop-part : goal.invariant-loop-part
invariant-loop-part l = Passed l.text l.yielded (left l.part-iterator) l.at × (l.end ≤ l.at) × (l.end ≡ size (trim_end (map held l.yielded)))
