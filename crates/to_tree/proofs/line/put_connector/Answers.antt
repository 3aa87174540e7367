-- `put_connector` meets its contract: the connector of a last sibling or of another.
use Rattle.mdf4.specs.Tree.{connector}
use Rattle.to_tree.proofs.line.put_connector.Goals as goal

pub returns-then-last : goal.returns-then-last
unfolding connector
returns-then-last c = rw c.if-last.true c.put_bytes.ensures

pub returns-else-last : goal.returns-else-last
unfolding connector
returns-else-last c = rw c.if-last.false c.put_bytes-else-last.ensures
