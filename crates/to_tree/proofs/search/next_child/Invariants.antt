-- `next_child` meets its contract. The invariant: no link passed leads to a row.
use Rattle.std.proofs.Common.{map}
use Rattle.tables.specs.Rows.{link_of_words}
use Rattle.to_tree.proofs.Searching.{Passed}
use Rattle.to_tree.proofs.search.next_child.Given as goal

abbrev pub invariant-loop-place : goal.invariant-loop-place
invariant-loop-place l = Passed l.blocks (map link_of_words l.links) l.from l.place
