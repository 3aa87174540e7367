-- `put_roots` meets its contract. The loop's invariant: what is left to print equals the whole.
use Rattle.to_tree.specs.Printing.{Same}
use Rattle.to_tree.proofs.Turning.{Rooting}
use Rattle.to_tree.proofs.printer.Printer.put_roots.Given as goal

abbrev pub invariant-loop-row : goal.invariant-loop-row
invariant-loop-row l =
    let start = l.initial.self in
    record {
      same : Same start l.self;
      rooting : Rooting start.file.now start.n start.links.now start.blocks.now start.page.now l.self.blocks.now l.self.page.now l.row;
    }
