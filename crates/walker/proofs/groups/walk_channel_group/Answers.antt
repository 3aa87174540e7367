-- `walk_channel_group` meets its contract: visited before, no room, or entered.
use Rattle.std.proofs.Common.{arith}
use Rattle.mdf4.specs.Act.{CG}
use Rattle.mdf4.specs.Walk.{walk_channel_group}
use Rattle.walk_state.proofs.Steps.{handed, once_halt, once_old, once_new}
use Rattle.walker.specs.Groups.{enter_channel_group}
use Rattle.walker.proofs.groups.walk_channel_group.Goals as goal

pub returns-in_err-mark : goal.returns-in_err-mark
unfolding walk_channel_group enter_channel_group
returns-in_err-mark c fuel got h = handed _ c.from_residual.ensures.1 (once_halt CG _ _ _ (c.in_err-mark.ensures CG))

pub returns-then-not-branch : goal.returns-then-not-branch
unfolding walk_channel_group enter_channel_group
returns-then-not-branch c fuel got h =
    once_old CG _ _ _ c.if-not-branch.true (c.in_ok-mark.ensures CG) (rw c.no_layout.ensures)

pub returns : goal.returns
unfolding walk_channel_group enter_channel_group
returns c fuel got h =
    let d = c.in_ok-mark.ensures CG in
    once_new CG _ _ _ c.if-not-branch.false d (c.enter_channel_group.ensures fuel got (omega (arith, d.keeps.visited_long)))
