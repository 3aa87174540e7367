-- `render_tree_node`, which calls itself for the children, meets its contract. The levels left fall. The loop's invariant: what is left to
-- print equals the whole.
use Rattle.std.proofs.Common.{◌-◌, refl, ap, ◌∙◌, Ok, take, arith}
use Rattle.mdf4.specs.Tree.{max_levels}
use Rattle.tables.specs.Rows.{row_of}
use Rattle.to_tree.proofs.Lines.{bars_kept}
use Rattle.to_tree.proofs.Turning.{last_is, place_in, child_in, turning, turn, turn_no, turned_all}
use Rattle.to_tree.proofs.Turning.{child_prints, same_once, same_twice, handed, followed, own_links, refused_below, printed_below}
use Rattle.to_tree.proofs.printer.Printer.+render_tree_node.Goals as goal

pub loop-child-init : goal.loop-child-init
loop-child-init t c =
    let next = rw c.rows.ensures at c.next_child-child.ensures in
    record { bars = refl; same = same_once; inside = child_in _ _ next.inside; turning = turning _ _ _ _ _ _ _ _ _ _ next.stops }

pub loop-child-preserved : goal.loop-child-preserved
loop-child-preserved t c =
    let f = followed c.in-Some.is c.in_ok-block.ensures.opened in
    let s = c.loop-child.self in
    let v = c.loop-child.invariant in
    let next = rw (c.rows-in-Some-child.ensures, v.same.n) at c.next_child-child-in-Some-child.ensures in
    let here = rw c.in-Some-child.is at v.turning in
    let inside = place_in _ _ (rw c.in-Some-child.is at v.inside) in
    let x = c.in_ok-render_tree_node.ensures in
    let above = c.open_node.new.self.bars in
    let printed = child_prints v.same _ _ _ _ _ c.args.node.now.levels _ above (omega arith) f.1 c.requires.levels v.bars x.printed in
    record {
      bars = bars_kept s.bars _ c.args.node.now.levels _ x.bars ∙ v.bars;
      same = same_twice v.same
          (record { file = x.same.file; links = x.same.links; n = x.same.n; blocks = x.same.blocks; page = x.same.page; out = x.same.out });
      inside = child_in _ _ next.inside;
      turning = turn _ _ _ _ _ _ _ _ _ _ _ _ here inside _ next.stops _ (last_is _ _ c.is_none.ensures next) _ _ _ printed _ refl;
    }

pub returns-in_err-render_tree_node-clause-bars : goal.returns-in_err-render_tree_node-clause-bars
returns-in_err-render_tree_node-clause-bars t c =
    let x = c.in_err-render_tree_node.ensures in
    let above = take (max_levels - c.args.node.now.levels) in
    bars_kept c.loop-child.self.bars _ c.args.node.now.levels _ x.bars ∙ c.loop-child.invariant.bars ∙ ap above c.in_ok-block.ensures.bars

pub returns-in_err-render_tree_node-clause-printed :
    goal.returns-in_err-render_tree_node-clause-printed
unfolding row_of
returns-in_err-render_tree_node-clause-printed t c =
    let o = c.in_ok-block.ensures in
    let f = followed c.in-Some.is o.opened in
    let v = c.loop-child.invariant in
    let next = rw (c.rows-in-Some-child.ensures, v.same.n) at c.next_child-child-in-Some-child.ensures in
    let here = rw c.in-Some-child.is at v.turning in
    let inside = place_in _ _ (rw c.in-Some-child.is at v.inside) in
    let x = c.in_err-render_tree_node.ensures in
    let above = c.open_node.new.self.bars in
    let printed = child_prints v.same _ _ _ _ _ c.args.node.now.levels _ above (omega arith) f.1 c.requires.levels v.bars x.printed in
    let refused = turn_no _ _ _ _ _ _ _ _ _ _ _ _ here inside _ next.stops _ (last_is _ _ c.is_none.ensures next) _ _ _ printed _ refl in
    handed _ c.from_residual-in_err-render_tree_node.ensures.1
    (refused_below _ _ _ _ _ _ _ _ _ _ o.opened _ (ap Ok c.in-Some.is) _ _ (λ i. x.printed.same i ∙ v.turning.same i) _
    (rw (own_links c.open_node.new.self.links.now c.in-Some.block, o.same.n, o.same.links, o.same.file, o.bars) at refused))

pub returns-clause-printed : goal.returns-clause-printed
unfolding row_of
returns-clause-printed t c =
    let o = c.in_ok-block.ensures in
    let v = c.loop-child.invariant in
    let all = turned_all _ _ _ _ _ _ _ _ _ _ _ _ (rw c.in_default-child.is at v.turning) (omega arith) in
    printed_below _ _ _ _ _ _ _ _ _ _ o.opened _ (ap Ok c.in-Some.is) _ _ v.turning.same _
    (rw (own_links c.open_node.new.self.links.now c.in-Some.block, o.same.n, o.same.links, o.same.file, o.bars) at all)
