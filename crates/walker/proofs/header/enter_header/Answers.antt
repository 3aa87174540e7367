-- `enter_header` meets its contract: the first refusal, or the answer of the data groups.
use Rattle.std.proofs.Common.{arith}
use Rattle.walk_state.proofs.Steps.{handed, then, next, halt, halt_next, led}
use Rattle.walker.proofs.HeaderSteps.{header_entered}
use Rattle.walker.proofs.header.enter_header.Goals as goal

pub returns-in_err-header : goal.returns-in_err-header
returns-in_err-header c fuel h = header_entered fuel (handed _ c.from_residual.ensures.1 (halt _ c.in_err-header.ensures))

pub returns-in_err-walk_text_like : goal.returns-in_err-walk_text_like
returns-in_err-walk_text_like c fuel h =
    handed _ c.from_residual-in_err-walk_text_like.ensures.1 (header_entered fuel (then _ c.in_ok-header.ensures (halt_next _ (led _ _ c.follow.ensures c.in_err-walk_text_like.ensures))))

pub returns : goal.returns
returns c fuel h =
    let m = led _ _ c.follow.ensures c.in_ok-walk_text_like.ensures in
    let f = c.follow-2.ensures in
    let d = led _ _ f (c.walk_data_groups.ensures fuel (omega (arith, c.in_ok-header.ensures.keeps.visited_long, m.keeps.visited_long, f.keeps.visited_long))) in
    header_entered fuel (then _ c.in_ok-header.ensures (next m d))
