-- `put_links` meets its contract. The invariant: the links passed are written.
use Rattle.std.proofs.Common.{take, map}
use Rattle.fmt.specs.Text.{Writes}
use Rattle.mdf4.specs.Listing.{link_lines}
use Rattle.blocks.specs.Kind.{kind_named}
use Rattle.tables.specs.Rows.{link_of_words}
use Rattle.to_text.proofs.put_links.Given as goal

abbrev pub invariant-loop-i : goal.invariant-loop-i
invariant-loop-i l = Writes l.initial.page (link_lines (kind_named l.kind) 0 (map link_of_words (take l.i l.links))) l.page
