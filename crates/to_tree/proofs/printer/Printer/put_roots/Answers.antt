-- `put_roots` meets its contract. The loop's invariant: what is left to print equals the whole.
use Rattle.std.proofs.Common.{refl}
use Rattle.to_tree.proofs.Turning.{same_twice, handed, root_prints, root_listed, root_printed, root_refused, rooted}
use Rattle.to_tree.proofs.printer.Printer.put_roots.Goals as goal
use Rattle.to_tree.proofs.printer.Printer.put_roots.Goals.{then-self-row-eq0+in_ok-render_tree_node, else-self-row-eq0}

pub returns-in_err-render_tree_node-clause-printed :
    goal.returns-in_err-render_tree_node-clause-printed
returns-in_err-render_tree_node-clause-printed c =
    let v = c.loop-row.invariant in
    let x = root_prints v.same _ _ _ _ c.in_err-render_tree_node.ensures.printed in
    handed _ c.from_residual.ensures.1 (root_refused _ _ _ _ _ _ _ _ v.rooting c.loop-row-test.true c.if-self-row-eq0.true _ _ _ x _ refl)

pub loop-row-preserved : goal.loop-row-preserved
loop-row-preserved c =
    let v = c.loop-row.invariant in
    elim c.if-self-row-eq0.branch [
      | then-self-row-eq0+in_ok-render_tree_node w ↦
          let x = w.in_ok-render_tree_node.ensures in
          let printed = root_prints v.same _ _ _ _ x.printed in
          rw w.self-is (record {
            same = same_twice v.same x.same;
            rooting = root_printed _ _ _ _ _ _ _ _ v.rooting c.loop-row-test.true w.if-self-row-eq0.true _ _ _ printed _ refl;
          })
      | else-self-row-eq0 w ↦
          let passed = root_listed _ _ _ _ _ _ _ _ v.rooting c.loop-row-test.true w.if-self-row-eq0.false in
          rw w.self-is (record { same = v.same; rooting = passed })
    ]

pub returns-clause-printed : goal.returns-clause-printed
returns-clause-printed c = rooted _ _ _ _ _ _ _ _ c.loop-row.invariant.rooting _ c.loop-row-test.false
