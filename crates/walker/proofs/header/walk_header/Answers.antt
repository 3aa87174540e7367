-- `walk_header` meets its contract: visited before, no room, or entered.
use Rattle.std.proofs.Common.{refl, arith}
use Rattle.mdf4.specs.Act.{HD}
use Rattle.mdf4.specs.Walk.{walk_header}
use Rattle.walk_state.proofs.Steps.{handed, once_halt, once_old, once_new}
use Rattle.walker.specs.Header.{enter_header}
use Rattle.walker.proofs.header.walk_header.Goals as goal

pub returns-in_err-mark : goal.returns-in_err-mark
unfolding walk_header enter_header
returns-in_err-mark c fuel h = handed _ c.from_residual.ensures.1 (once_halt HD _ _ _ (c.in_err-mark.ensures HD))

pub returns-then-not-branch : goal.returns-then-not-branch
unfolding walk_header enter_header
returns-then-not-branch c fuel h =
    once_old HD _ _ _ c.if-not-branch.true (c.in_ok-mark.ensures HD) refl

pub returns : goal.returns
unfolding walk_header enter_header
returns c fuel h =
    let d = c.in_ok-mark.ensures HD in
    once_new HD _ _ _ c.if-not-branch.false d (c.enter_header.ensures fuel (omega (arith, d.keeps.visited_long)))
