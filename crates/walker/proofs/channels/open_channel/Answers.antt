-- `open_channel` meets its contract: it is not read, its name or its row is refused, or it is listed.
use mathlib.Core.Path.{sym}
use Rattle.mdf4.specs.Act.{CN}
use Rattle.mdf4.specs.Kinds.{no_records}
use Rattle.blocks.specs.ChannelBlock.{channel_block_of}
use Rattle.blocks.proofs.Parse.{parsed_ok}
use Rattle.walker.proofs.Entering.{not_read, not_named, listed, unlisted}
use Rattle.walker.proofs.ChannelSteps.{content_cn, unnamed, channel_found}
use Rattle.walker.proofs.channels.open_channel.Goals as goal

pub returns-in_err-channel : goal.returns-in_err-channel
returns-in_err-channel c = not_read channel_block_of CN _ (no_records 0) _ c.from_residual.ensures.1 c.in_err-channel.ensures

pub returns-in_err-read_text_at : goal.returns-in_err-read_text_at
returns-in_err-read_text_at c =
    let p = parsed_ok channel_block_of CN c.args.walker.now.file.now c.args.addr (sym c.in_ok-channel.ensures) in
    not_named channel_block_of CN _ (no_records 0) _ c.from_residual-in_err-read_text_at.ensures.1 p.0 p.1 (content_cn p.0)
    (unnamed _ p.0 _ p.2 _ c.in_err-read_text_at.ensures.says)

pub returns-in_err-list_block : goal.returns-in_err-list_block
returns-in_err-list_block c =
    let y = channel_found _ _ c.in_ok-channel.ensures _ c.in_ok-read_text_at.ensures.says c.plain-block.ensures in
    unlisted y c.from_residual-in_err-list_block.ensures.1 (c.in_err-list_block.ensures (no_records 0) y.found.own y.found.tells)

pub returns : goal.returns
returns c =
    let y = channel_found _ _ c.in_ok-channel.ensures _ c.in_ok-read_text_at.ensures.says c.plain-block.ensures in
    listed y (c.in_ok-list_block.ensures (no_records 0) y.found.own y.found.tells)
