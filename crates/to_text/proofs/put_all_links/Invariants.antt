-- `put_all_links` meets its contract. The invariant: the links of the rows passed are written.
use Rattle.std.proofs.Common.{take, map}
use Rattle.fmt.specs.Text.{Writes}
use Rattle.mdf4.specs.Bytes.{concat_map}
use Rattle.mdf4.specs.Listing.{block_links}
use Rattle.tables.specs.Rows.{row_of_words, link_of_words}
use Rattle.to_text.proofs.put_all_links.Given as goal

abbrev pub invariant-loop-row : goal.invariant-loop-row
invariant-loop-row l =
    Writes l.initial.page (concat_map (block_links l.file (map link_of_words l.links)) (map row_of_words (take l.row-index l.blocks))) l.page
