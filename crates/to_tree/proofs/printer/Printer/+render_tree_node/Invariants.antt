-- `render_tree_node`, which calls itself for the children, meets its contract. The levels left fall. The loop's invariant: what is left to
-- print equals the whole.
use Rattle.std.proofs.Common.{◌≡◌, ◌-◌, ◌<◌, length, map, take}
use Rattle.std.specs.Option.{IfSome}
use Rattle.mdf4.specs.Tree.{max_levels}
use Rattle.blocks.specs.Kind.{kind_named}
use Rattle.tables.specs.Rows.{link_of_words}
use Rattle.to_tree.specs.Printing.{Same}
use Rattle.to_tree.specs.Search.{stop}
use Rattle.to_tree.proofs.Turning.{Turning}
use Rattle.to_tree.proofs.printer.Printer.+render_tree_node.Given as goal

abbrev pub decreases-render_tree_node : goal.decreases-render_tree_node
decreases-render_tree_node l = l.node.now.levels

abbrev pub invariant-loop-child : goal.invariant-loop-child
invariant-loop-child l =
    let depth = max_levels - l.node.levels in
    let start = l.initial.self in
    record {
      bars : take depth l.self.bars ≡ take depth start.bars;
      same : Same start l.self;
      inside : IfSome l.child (λ c. c.place < length l.links);
      turning : Turning start.file.now start.n start.links.now (l.node.levels - 1) (take depth start.bars) (kind_named l.block.kind)
          (map link_of_words l.links)
          start.blocks.now start.page.now l.self.blocks.now l.self.page.now (stop (length (map link_of_words l.links)) l.child);
    }

abbrev pub decreases-loop-child : goal.decreases-loop-child
decreases-loop-child l = length l.links - (stop (length l.links) l.child).place
