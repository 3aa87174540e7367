-- `put_ranges` meets its contract. The invariant: the ranges found are written.
use Rattle.std.proofs.Common.{map}
use Rattle.fmt.specs.Text.{Writes}
use Rattle.mdf4.specs.Bytes.{concat_map}
use Rattle.mdf4.specs.Clear.{range_bytes}
use Rattle.mdf4.specs.Layout.{compute_gaps}
use Rattle.tables.specs.Gaps.{range_of, gaps_left}
use Rattle.clear_ranges.proofs.Sweeping.{Going}
use Rattle.clr.proofs.put_ranges.Given as goal

abbrev pub invariant-loop-range : goal.invariant-loop-range
invariant-loop-range l =
    Going (λ ps. Writes l.initial.page (concat_map range_bytes ps) l.page) (compute_gaps l.len 0 (map range_of l.rows)) (gaps_left l.range-iterator)
