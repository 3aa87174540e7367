-- `put_node_line` meets its contract: seven texts, one after the other.
use Rattle.fmt.proofs.Text.{writes_then}
use Rattle.mdf4.specs.Tree.{node_line}
use Rattle.tables.specs.Rows.{row_of}
use Rattle.to_tree.proofs.line.put_node_line.Goals as goal

pub returns : goal.returns
unfolding node_line row_of
returns c =
    let head = writes_then (writes_then c.put_edge.ensures c.put_mark.ensures) c.put_format.ensures in
    writes_then (writes_then (writes_then (writes_then head c.put_description.ensures) c.put_bytes.ensures) c.put_already.ensures)
    c.put_bytes-2.ensures
