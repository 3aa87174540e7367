-- `enter_channel_group` meets its contract: the first refusal, or the next address and the record layout.
use native.Mathlib.Omega.{arith}
use Rattle.walk_state.proofs.Steps.{handed, then, next, halt, halt_next, done, led}
use Rattle.walker.proofs.GroupSteps.{group_entered}
use Rattle.walker.proofs.groups.enter_channel_group.Goals as goal

pub returns-in_err-group : goal.returns-in_err-group
returns-in_err-group c fuel got h = group_entered fuel _ got _ (handed _ c.from_residual.ensures.1 (halt _ c.in_err-group.ensures))

pub returns-in_err-walk_text_like : goal.returns-in_err-walk_text_like
returns-in_err-walk_text_like c fuel got h =
    handed _ c.from_residual-in_err-walk_text_like.ensures.1
    (group_entered fuel _ got _ (then _ c.in_ok-group.ensures (halt_next _ (halt_next _ (halt_next _ (halt_next _ (led _ _ c.follow.ensures c.in_err-walk_text_like.ensures)))))))

pub returns-in_err-walk_source : goal.returns-in_err-walk_source
returns-in_err-walk_source c fuel got h =
    handed _ c.from_residual-in_err-walk_source.ensures.1
    (group_entered fuel _ got _
    (then _ c.in_ok-group.ensures (halt_next _ (halt_next _ (halt_next _ (next (led _ _ c.follow.ensures c.in_ok-walk_text_like.ensures) (led _ _ c.follow-2.ensures c.in_err-walk_source.ensures)))))))

pub returns-in_err-walk_text_like-2 : goal.returns-in_err-walk_text_like-2
returns-in_err-walk_text_like-2 c fuel got h =
    handed _ c.from_residual-in_err-walk_text_like-2.ensures.1
    (group_entered fuel _ got _
    (then _ c.in_ok-group.ensures
    (halt_next _ (halt_next _ (next (next (led _ _ c.follow.ensures c.in_ok-walk_text_like.ensures) (led _ _ c.follow-2.ensures c.in_ok-walk_source.ensures)) (led _ _ c.follow-3.ensures c.in_err-walk_text_like-2.ensures))))))

pub returns-in_err-walk_channels : goal.returns-in_err-walk_channels
returns-in_err-walk_channels c fuel got h =
    let m = next (next (led _ _ c.follow.ensures c.in_ok-walk_text_like.ensures) (led _ _ c.follow-2.ensures c.in_ok-walk_source.ensures)) (led _ _ c.follow-3.ensures c.in_ok-walk_text_like-2.ensures) in
    let f = c.follow-4.ensures in
    let d = led _ _ f (c.in_err-walk_channels.ensures fuel (omega (arith, c.in_ok-group.ensures.keeps.visited_long, m.keeps.visited_long, f.keeps.visited_long))) in
    handed _ c.from_residual-in_err-walk_channels.ensures.1 (group_entered fuel _ got _ (then _ c.in_ok-group.ensures (halt_next _ (next m d))))

pub returns : goal.returns
returns c fuel got h =
    let m = next (next (led _ _ c.follow.ensures c.in_ok-walk_text_like.ensures) (led _ _ c.follow-2.ensures c.in_ok-walk_source.ensures)) (led _ _ c.follow-3.ensures c.in_ok-walk_text_like-2.ensures) in
    let f = c.follow-4.ensures in
    let d = led _ _ f (c.in_ok-walk_channels.ensures fuel (omega (arith, c.in_ok-group.ensures.keeps.visited_long, m.keeps.visited_long, f.keeps.visited_long))) in
    group_entered fuel _ got _ (then _ c.in_ok-group.ensures (next (next m d) (led _ _ c.follow-5.ensures (done (rw c.group_layout.ensures)))))
