-- A block's own bytes have room for the fields.
use native.Mathlib.Omega.{arith}
use Rattle.blocks.proofs.Fixed.{fixed_cn, fixed_size}
use Rattle.blocks.proofs.channel_block.ChannelBlockBlockParse.TheImpl.Goals as goal

pub fields-asks : goal.fields-asks
fields-asks c = omega (arith, fixed_size fixed_cn c.requires)
