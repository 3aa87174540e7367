-- `put_already` meets its contract: a text, or nothing.
use Rattle.fmt.proofs.Text.{writes_none}
use Rattle.to_tree.proofs.line.put_already.Goals as goal

pub returns-then-already : goal.returns-then-already
returns-then-already c = rw c.if-already.true c.put_bytes.ensures

pub returns-else-already : goal.returns-else-already
returns-else-already c = rw c.if-already.false (writes_none _)
