-- `put_edge` meets its contract: nothing for a root, else the prefix, the connector and the link's name.
use Rattle.fmt.proofs.Text.{writes_none, writes_then}
use Rattle.mdf4.specs.Tree.{edge_text}
use Rattle.to_tree.proofs.Lines.{edge_last, no_bar, no_link}
use Rattle.to_tree.proofs.line.put_edge.Goals as goal

pub returns-in_default : goal.returns-in_default
returns-in_default c = rw (no_bar c.args.bars.now c.args.edge c.in_default.ensures.cases) (writes_none _)

pub returns-in_default-edge : goal.returns-in_default-edge
returns-in_default-edge c = rw (no_link c.args.bars.now _ c.args.edge c.in_default-edge.is) (writes_none _)

pub returns : goal.returns
unfolding edge_text
returns c =
    rw (c.in-Some-edge.is, edge_last c.args.bars.now c.in-Some.above.now _ c.in-Some-edge.link c.in-Some.ensures.cases.0)
    (writes_then (writes_then (writes_then (writes_then c.put_prefix.ensures c.put_connector.ensures) c.put_bytes.ensures)
    c.put_link_name.ensures) c.put_bytes-2.ensures)
