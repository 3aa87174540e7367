-- `walk_channel` meets its contract: visited before, no room, or entered.
use mathlib.Core.Path.{refl}
use Rattle.mdf4.specs.Act.{CN}
use Rattle.mdf4.specs.Walk.{walk_channel}
use Rattle.walk_state.proofs.Steps.{handed, once_halt, once_old, once_new}
use Rattle.walker.specs.Channels.{enter_channel}
use Rattle.walker.proofs.channels.walk_channel.Goals as goal

pub returns-in_err-mark : goal.returns-in_err-mark
unfolding walk_channel enter_channel
returns-in_err-mark c = handed _ c.from_residual.ensures.1 (once_halt CN _ _ _ (c.in_err-mark.ensures CN))

pub returns-then-not-branch : goal.returns-then-not-branch
unfolding walk_channel enter_channel
returns-then-not-branch c =
    once_old CN _ _ _ c.if-not-branch.true (c.in_ok-mark.ensures CN) refl

pub returns : goal.returns
unfolding walk_channel enter_channel
returns c =
    let d = c.in_ok-mark.ensures CN in
    once_new CN _ _ _ c.if-not-branch.false d c.enter_channel.ensures
