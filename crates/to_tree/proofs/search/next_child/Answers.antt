-- `next_child` meets its contract. The invariant: no link passed leads to a row.
use Rattle.std.proofs.Common.{rules}
use Rattle.to_tree.proofs.Searching.{passed_none, passed_one, next_row, next_none}
use Rattle.to_tree.proofs.search.next_child.Goals as goal

pub loop-place-init : goal.loop-place-init
loop-place-init c = passed_none _ _ _ c.requires

pub loop-place-preserved : goal.loop-place-preserved
loop-place-preserved c = passed_one _ _ _ _ c.loop-place.invariant c.loop-place-test.true _ (search rules) c.child_row.ensures

pub returns-in-Some : goal.returns-in-Some
returns-in-Some c = next_row _ _ _ _ c.loop-place.invariant c.loop-place-test.true _ _ c.in-Some.is c.child_row.ensures

pub returns : goal.returns
returns c = next_none _ _ _ _ c.loop-place-test.false c.loop-place.invariant
