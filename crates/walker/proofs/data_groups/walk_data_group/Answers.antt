-- `walk_data_group` meets its contract: visited before, no room, or entered.
use Rattle.std.proofs.Common.{refl, arith}
use Rattle.mdf4.specs.Act.{DG}
use Rattle.mdf4.specs.Walk.{walk_data_group}
use Rattle.walk_state.proofs.Steps.{handed, once_halt, once_old, once_new}
use Rattle.walker.specs.DataGroups.{enter_data_group}
use Rattle.walker.proofs.data_groups.walk_data_group.Goals as goal

pub returns-in_err-mark : goal.returns-in_err-mark
unfolding walk_data_group enter_data_group
returns-in_err-mark c fuel h = handed _ c.from_residual.ensures.1 (once_halt DG _ _ _ (c.in_err-mark.ensures DG))

pub returns-then-not-branch : goal.returns-then-not-branch
unfolding walk_data_group enter_data_group
returns-then-not-branch c fuel h =
    once_old DG _ _ _ c.if-not-branch.true (c.in_ok-mark.ensures DG) refl

pub returns : goal.returns
unfolding walk_data_group enter_data_group
returns c fuel h =
    let d = c.in_ok-mark.ensures DG in
    once_new DG _ _ _ c.if-not-branch.false d (c.enter_data_group.ensures fuel (omega (arith, d.keeps.visited_long)))
