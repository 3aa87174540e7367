-- `put_counts` meets its contract. The invariant: the ranges found are counted.
use Rattle.std.proofs.Common.{length, map}
use Rattle.std.specs.Iterator.Adapters.{enumerate_source, enumerate_count}
use Rattle.mdf4.specs.Layout.{compute_gaps}
use Rattle.tables.specs.Gaps.{range_of, gaps_left}
use Rattle.clear_ranges.proofs.Sweeping.{Going}
use Rattle.blanking.proofs.Counting.{Counting}
use Rattle.blanking.proofs.put_counts.Given as goal

abbrev pub invariant-loop-at : goal.invariant-loop-at
invariant-loop-at l =
    Going (Counting l.data l.initial.counts l.counts l.total (enumerate_count l.at-iterator))
    (compute_gaps (length l.data) 0 (map range_of l.rows)) (gaps_left (enumerate_source l.at-iterator))
