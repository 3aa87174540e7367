-- `put_rows` meets its contract. The invariant: the rows passed are written.
use Rattle.std.proofs.Common.{take, map}
use Rattle.fmt.specs.Text.{Writes}
use Rattle.mdf4.specs.Bytes.{concat_map}
use Rattle.mdf4.specs.Listing.{row_lines}
use Rattle.tables.specs.Rows.{row_of_words}
use Rattle.to_text.proofs.put_rows.Given as goal

abbrev pub invariant-loop-row : goal.invariant-loop-row
invariant-loop-row l = Writes l.initial.page (concat_map (row_lines l.file) (map row_of_words (take l.row-index l.blocks))) l.page
