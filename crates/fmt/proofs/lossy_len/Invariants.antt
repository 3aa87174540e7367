-- The bytes so far and those of the parts that are to come are the text's; the count stops at 2^64 - 1.
use Rattle.std.proofs.Common.{◌≡◌, ◌<◌, ◌+◌, ◌-◌, ◌^◌, min, length}
use Rattle.utf8.specs.Utf8.{shown_all, lossy}
use Rattle.utf8.specs.Parts.{left}
use Rattle.fmt.proofs.lossy_len.Given as goal

abbrev pub invariant-loop-part : goal.invariant-loop-part
invariant-loop-part l =
    (l.len < 2 ^ 64) × (min (l.len + length (shown_all (left l.part-iterator))) (2 ^ 64 - 1) ≡ min (length (lossy l.text)) (2 ^ 64 - 1))
