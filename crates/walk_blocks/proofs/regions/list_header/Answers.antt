-- `list_header` meets its contract: the header is refused, or it tells the block that is listed.
use Rattle.std.proofs.Common.{refl}
use Rattle.walk_blocks.specs.Regions.{list_header}
use Rattle.walk_state.proofs.Steps.{handed, dropped}
use Rattle.walk_blocks.proofs.Entering.{enter_refused, found_enters}
use Rattle.walk_blocks.proofs.DataBlocks.{data_refused, data_found}
use Rattle.walk_blocks.proofs.regions.list_header.Goals as goal

pub returns-in_err-header : goal.returns-in_err-header
unfolding list_header
returns-in_err-header c h t =
    dropped _ (λ u. refl) (handed _ c.from_residual.ensures.1 (enter_refused _ _ h (data_refused t _ _ c.in_err-header.ensures)))

pub returns : goal.returns
unfolding list_header
returns c h t =
    let f = data_found t c.args.walker.now.file.now c.args.addr c.in_ok-header.ensures c.from.ensures in
    dropped _ (λ u. refl) (found_enters f (c.list_block.ensures h f.own f.tells))
