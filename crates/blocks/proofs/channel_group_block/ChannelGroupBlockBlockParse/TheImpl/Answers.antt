-- A block's own bytes have room for the fields.
use Rattle.blocks.proofs.ChannelGroupBlock.{cg_fits}
use Rattle.blocks.proofs.channel_group_block.ChannelGroupBlockBlockParse.TheImpl.Goals as goal

pub fields-asks : goal.fields-asks
fields-asks c = cg_fits c.requires
