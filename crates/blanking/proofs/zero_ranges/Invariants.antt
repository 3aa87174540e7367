-- `zero_ranges` meets its contract. The invariant: the ranges found are zero, and no other byte is changed.
use Rattle.std.proofs.Common.{◌≡◌, length, map}
use Rattle.mdf4.specs.Blank.{zeroed}
use Rattle.mdf4.specs.Layout.{compute_gaps}
use Rattle.tables.specs.Gaps.{range_of, gaps_left}
use Rattle.clear_ranges.proofs.Sweeping.{Going}
use Rattle.blanking.proofs.zero_ranges.Given as goal

abbrev pub invariant-loop-range : goal.invariant-loop-range
invariant-loop-range l =
    Going (λ ps. l.data ≡ zeroed ps 0 l.initial.data) (compute_gaps (length l.initial.data) 0 (map range_of l.rows)) (gaps_left l.range-iterator)
