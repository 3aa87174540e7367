-- `put_gaps` meets its contract. The invariant: the gaps passed are written behind the heading.
use Rattle.std.proofs.Common.{take, map}
use Rattle.fmt.specs.Text.{Writes}
use Rattle.mdf4.specs.Bytes.{concat_map}
use Rattle.mdf4.specs.Listing.{gap_line}
use Rattle.tables.specs.Gaps.{range_of}
use Rattle.to_text.proofs.put_gaps.Given as goal

abbrev pub invariant-loop-start : goal.invariant-loop-start
invariant-loop-start l = Writes l.initial.page (concat_map gap_line (map range_of (take l.start-index l.gaps))) l.page
