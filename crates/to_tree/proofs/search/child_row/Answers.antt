-- `child_row` meets its contract: a null link leads nowhere, another to the row that is found.
use Rattle.to_tree.proofs.Searching.{leads_none, leads_row}
use Rattle.to_tree.proofs.search.child_row.Goals as goal

pub returns-then-target-eq0 : goal.returns-then-target-eq0
returns-then-target-eq0 c = leads_none _ _ c.if-target-eq0.true

pub returns : goal.returns
returns c = leads_row _ _ _ c.if-target-eq0.false c.find_row.ensures
