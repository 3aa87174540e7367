-- `walk_identification` meets its contract: visited before, no room, or entered.
use mathlib.Core.Path.{refl}
use Rattle.mdf4.specs.Act.{ID}
use Rattle.mdf4.specs.Walk.{walk_identification}
use Rattle.walk_state.proofs.Steps.{handed, once_halt, once_old, once_new}
use Rattle.walker.proofs.header.walk_identification.Goals as goal

pub returns-in_err-mark : goal.returns-in_err-mark
unfolding walk_identification
returns-in_err-mark c = handed _ c.from_residual.ensures.1 (once_halt ID _ _ _ (c.in_err-mark.ensures ID))

pub returns-then-not-branch : goal.returns-then-not-branch
unfolding walk_identification
returns-then-not-branch c =
    once_old ID _ _ _ c.if-not-branch.true (c.in_ok-mark.ensures ID) refl

pub returns : goal.returns
unfolding walk_identification
returns c =
    let d = c.in_ok-mark.ensures ID in
    once_new ID _ _ _ c.if-not-branch.false d c.enter_identification.ensures
