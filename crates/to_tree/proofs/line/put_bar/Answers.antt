-- `put_bar` meets its contract: the bar of a last sibling or of another.
use Rattle.mdf4.specs.Tree.{bar}
use Rattle.to_tree.proofs.line.put_bar.Goals as goal

pub returns-then-last : goal.returns-then-last
unfolding bar
returns-then-last c = rw c.if-last.true c.put_bytes.ensures

pub returns-else-last : goal.returns-else-last
unfolding bar
returns-else-last c = rw c.if-last.false c.put_bytes-else-last.ensures
