-- `enter_data_group` meets its contract: the first refusal, or the next address.
use Rattle.std.proofs.Common.{refl, arith}
use Rattle.walk_state.proofs.Steps.{handed, then, next, halt, halt_next, done, led}
use Rattle.walker.proofs.DataGroupSteps.{data_group_entered, link_kept}
use Rattle.walker.proofs.data_groups.enter_data_group.Goals as goal

pub returns-in_err-group : goal.returns-in_err-group
returns-in_err-group c fuel h = data_group_entered fuel _ (handed _ c.from_residual.ensures.1 (halt _ c.in_err-group.ensures))

pub returns-in_err-walk_text_like : goal.returns-in_err-walk_text_like
returns-in_err-walk_text_like c fuel h =
    handed _ c.from_residual-in_err-walk_text_like.ensures.1
    (data_group_entered fuel _ (then _ c.in_ok-group.ensures (halt {f = λ h. h} _ (halt_next _ (led _ _ c.follow.ensures c.in_err-walk_text_like.ensures)))))

pub returns-in_err-layout : goal.returns-in_err-layout
returns-in_err-layout c fuel h =
    let m = led _ _ c.follow.ensures c.in_ok-walk_text_like.ensures in
    let f = c.follow-2.ensures in
    let d = c.in_err-layout.ensures fuel (omega (arith, c.in_ok-group.ensures.keeps.visited_long, m.keeps.visited_long, f.keeps.visited_long)) in
    handed _ c.from_residual-in_err-layout.ensures.1 (data_group_entered fuel _ (then _ c.in_ok-group.ensures (halt _ (next m (led _ _ f d)))))

pub returns-in_err-walk_data_region : goal.returns-in_err-walk_data_region
returns-in_err-walk_data_region c fuel h =
    let m = led _ _ c.follow.ensures c.in_ok-walk_text_like.ensures in
    let f = c.follow-2.ensures in
    let d = next m (led _ _ f (c.in_ok-layout.ensures fuel (omega (arith, c.in_ok-group.ensures.keeps.visited_long, m.keeps.visited_long, f.keeps.visited_long)))) in
    let k = rw (link_kept _ c.in_ok-group.ensures.keeps d.keeps c.make_link-link.ensures) at c.in_err-walk_data_region.ensures in
    handed _ c.from_residual-in_err-walk_data_region.ensures.1 (data_group_entered fuel _ (then _ c.in_ok-group.ensures (then _ d (halt_next _ (led _ _ c.follow-3.ensures k)))))

pub returns : goal.returns
returns c fuel h =
    let m = led _ _ c.follow.ensures c.in_ok-walk_text_like.ensures in
    let f = c.follow-2.ensures in
    let d = next m (led _ _ f (c.in_ok-layout.ensures fuel (omega (arith, c.in_ok-group.ensures.keeps.visited_long, m.keeps.visited_long, f.keeps.visited_long)))) in
    let k = rw (link_kept _ c.in_ok-group.ensures.keeps d.keeps c.make_link-link.ensures) at c.in_ok-walk_data_region.ensures in
    data_group_entered fuel _ (then _ c.in_ok-group.ensures (then _ d (next (led _ _ c.follow-3.ensures k) (led _ _ c.follow-4.ensures (done refl)))))
