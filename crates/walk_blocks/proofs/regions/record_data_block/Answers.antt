-- `record_data_block` meets its contract: seen, not marked, or listed.
use Rattle.std.proofs.Common.{refl}
use Rattle.mdf4.specs.Walk.{record_data_block}
use Rattle.walk_blocks.specs.Regions.{list_header}
use Rattle.walk_state.proofs.Steps.{handed, once_halt, once_old, once_new}
use Rattle.walk_blocks.proofs.regions.record_data_block.Goals as goal

pub returns-in_err-mark : goal.returns-in_err-mark
unfolding record_data_block
returns-in_err-mark c h t = handed _ c.from_residual.ensures.1 (once_halt _ _ _ _ (c.in_err-mark.ensures _))

pub returns-then-not-branch : goal.returns-then-not-branch
unfolding record_data_block
returns-then-not-branch c h t = once_old _ _ _ _ c.if-not-branch.true (c.in_ok-mark.ensures _) refl

pub returns : goal.returns
unfolding record_data_block list_header
returns c h t = once_new _ _ _ _ c.if-not-branch.false (c.in_ok-mark.ensures _) (c.list_header.ensures h t)
