-- `put_spared` meets its contract. The invariant: the ranges of the rows passed are pushed.
use Rattle.std.proofs.Common.{◌*◌, ◌+◌, ◌≤◌, take, map}
use Rattle.mdf4.specs.Bytes.{concat_map}
use Rattle.tables.specs.Gaps.{Pushes}
use Rattle.tables.specs.Rows.{row_of_words}
use Rattle.scratch_rows.specs.Covers.{row_cover}
use Rattle.scratch_rows.proofs.put_spared.Given as goal

abbrev pub invariant-loop-row : goal.invariant-loop-row
invariant-loop-row l =
    Pushes l.initial.table (concat_map (row_cover l.file) (map row_of_words (take l.row-index l.blocks))) l.table
    × (l.table.count ≤ l.initial.table.count + 2 * l.row-index)
