-- `open_data_group` meets its contract: it is not read, its row is refused, or it is listed.
use Rattle.mdf4.specs.Act.{DG}
use Rattle.mdf4.specs.Kinds.{no_records}
use Rattle.blocks.specs.DataGroupBlock.{data_group_block_of}
use Rattle.walker.proofs.Entering.{not_read, listed, unlisted}
use Rattle.walker.proofs.DataGroupSteps.{data_group_found}
use Rattle.walker.proofs.data_groups.open_data_group.Goals as goal

pub returns-in_err-group : goal.returns-in_err-group
returns-in_err-group c = not_read data_group_block_of DG _ (no_records 0) _ c.from_residual.ensures.1 c.in_err-group.ensures

pub returns-in_err-list_block : goal.returns-in_err-list_block
returns-in_err-list_block c =
    let y = data_group_found _ _ c.in_ok-group.ensures c.plain-block.ensures in
    unlisted y c.from_residual-in_err-list_block.ensures.1 (c.in_err-list_block.ensures (no_records 0) y.found.own y.found.tells)

pub returns : goal.returns
returns c =
    let y = data_group_found _ _ c.in_ok-group.ensures c.plain-block.ensures in
    listed y (c.in_ok-list_block.ensures (no_records 0) y.found.own y.found.tells)
