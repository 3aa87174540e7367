-- `open_header` meets its contract: it is not read, its row is refused, or it is listed.
use Rattle.mdf4.specs.Act.{HD}
use Rattle.mdf4.specs.Kinds.{no_records}
use Rattle.blocks.specs.HeaderBlock.{header_block_of}
use Rattle.walker.proofs.Entering.{not_read, listed, unlisted}
use Rattle.walker.proofs.HeaderSteps.{header_found}
use Rattle.walker.proofs.header.open_header.Goals as goal

pub returns-in_err-header : goal.returns-in_err-header
returns-in_err-header c = not_read header_block_of HD _ (no_records 0) _ c.from_residual.ensures.1 c.in_err-header.ensures

pub returns-in_err-list_block : goal.returns-in_err-list_block
returns-in_err-list_block c =
    let y = header_found _ c.in_ok-header.ensures c.plain-block.ensures in
    unlisted y c.from_residual-in_err-list_block.ensures.1 (c.in_err-list_block.ensures (no_records 0) y.found.own y.found.tells)

pub returns : goal.returns
returns c =
    let y = header_found _ c.in_ok-header.ensures c.plain-block.ensures in
    listed y (c.in_ok-list_block.ensures (no_records 0) y.found.own y.found.tells)
