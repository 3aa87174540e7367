-- `open_channel_group` meets its contract: it is not read, its row is refused, or it is listed.
use Rattle.std.proofs.Common.{◌≡◌, List, ℕ, take}
use Rattle.mdf4.specs.Act.{CG}
use Rattle.mdf4.specs.Kinds.{shape, no_records}
use Rattle.blocks.specs.ChannelGroupBlock.{channel_group_block_of}
use Rattle.walker.proofs.Entering.{not_read, listed, unlisted}
use Rattle.walker.proofs.GroupSteps.{seven, six_targets, seven_targets, group_found}
use Rattle.walker.proofs.groups.open_channel_group.Goals as goal
use Rattle.walker.proofs.groups.open_channel_group.Goals.{then-group-lt7, else-group-lt7}

pub returns-in_err-group : goal.returns-in_err-group
returns-in_err-group c = not_read channel_group_block_of CG _ (no_records c.args.record_id_len) _ c.from_residual.ensures.1 c.in_err-group.ensures

pub returns-in_err-list_block : goal.returns-in_err-list_block
returns-in_err-list_block c =
    let g = c.in_ok-group.group in
    let t : (o : List ℕ) → channel_group_block_of o ≡ g → take c.if-group-lt7.shown (seven g) ≡ (shape CG).targets o =
    λ o e. elim c.if-group-lt7.branch [ then-group-lt7 b ↦ six_targets o g e b.shown-is b.if-group-lt7.true | else-group-lt7 b ↦ seven_targets o g e b.shown-is b.if-group-lt7.false ] in
    let y = group_found _ _ c.in_ok-group.ensures c.args.record_id_len c.from.ensures c.group_layout.ensures _ t in
    unlisted y c.from_residual-in_err-list_block.ensures.1 (c.in_err-list_block.ensures (no_records c.args.record_id_len) y.found.own y.found.tells)

pub returns : goal.returns
returns c =
    let g = c.in_ok-group.group in
    let t : (o : List ℕ) → channel_group_block_of o ≡ g → take c.if-group-lt7.shown (seven g) ≡ (shape CG).targets o =
    λ o e. elim c.if-group-lt7.branch [ then-group-lt7 b ↦ six_targets o g e b.shown-is b.if-group-lt7.true | else-group-lt7 b ↦ seven_targets o g e b.shown-is b.if-group-lt7.false ] in
    let y = group_found _ _ c.in_ok-group.ensures c.args.record_id_len c.from.ensures c.group_layout.ensures _ t in
    listed y (c.in_ok-list_block.ensures (no_records c.args.record_id_len) y.found.own y.found.tells)
