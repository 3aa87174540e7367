-- `open_node` meets its contract: refused, done with its line, or with links to follow.
use Rattle.std.proofs.Common.{true, false, arith}
use Rattle.std.proofs.lemmas.Bool.Decides.{nat_tests}
use Rattle.to_tree.proofs.Opening.{block_is, row_inside, ready_marked, block_reads, links_fit, line_of, open_deep, open_done, open_below}
use Rattle.to_tree.proofs.printer.Printer.open_node.Goals as goal

pub bounds-rows-node : goal.bounds-rows-node
bounds-rows-node c = row_inside _ _ _ _ c.rows.ensures c.requires.row

pub returns-then-node-eq0-clause-opened : goal.returns-then-node-eq0-clause-opened
returns-then-node-eq0-clause-opened c =
    let is = block_is _ _ _ _ _ _ c.rows.ensures c.requires.row c.load-block.ensures in
    open_deep _ _ _ _ _ _ _ _ c.requires.row _ is c.args.node.now.levels c.if-node-eq0.true

pub put_node_line-requires : goal.put_node_line-requires
put_node_line-requires c =
    let is = block_is _ _ _ _ _ _ c.rows.ensures c.requires.row c.load-block.ensures in
    block_reads c.args.self.now.ready _ _ c.requires.row is

pub returns-then-already-clause-opened : goal.returns-then-already-clause-opened
returns-then-already-clause-opened c =
    let is = block_is _ _ _ _ _ _ c.rows.ensures c.requires.row c.load-block.ensures in
    open_done _ _ _ _ _ _ _ _ c.requires.row _ is c.args.node.now.levels c.if-node-eq0.false _ c.if-already.true
    (line_of _ _ _ _ _ _ _ true (omega arith) is (grind (arith, nat_tests)) c.put_node_line.ensures)

pub invariant_of-self-2 : goal.invariant_of-self-2
invariant_of-self-2 c = record { ready = ready_marked c.args.self.now.ready c.args.node.now.row }

pub returns-clause-opened : goal.returns-clause-opened
returns-clause-opened c =
    let is = block_is _ _ _ _ _ _ c.rows.ensures c.requires.row c.load-block.ensures in
    let fit = links_fit c.args.self.now.ready _ _ c.requires.row is in
    open_below _ _ _ _ _ _ _ _ c.requires.row _ is c.args.node.now.levels c.if-node-eq0.false _ c.requires.root fit (omega arith) c.if-already.false
    (line_of _ _ _ _ _ _ _ false (omega arith) is (grind (arith, nat_tests)) c.put_node_line.ensures)
