-- A block's own bytes have room for the fields.
use native.Mathlib.Omega.{arith}
use Rattle.blocks.proofs.Fixed.{fixed_hd, fixed_size}
use Rattle.blocks.proofs.header_block.HeaderBlockBlockParse.TheImpl.Goals as goal

pub fields-asks : goal.fields-asks
fields-asks c = omega (arith, fixed_size fixed_hd c.requires)
