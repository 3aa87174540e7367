-- A block's own bytes have room for the fields.
use native.Mathlib.Omega.{arith}
use Rattle.blocks.proofs.Fixed.{fixed_dg, fixed_size}
use Rattle.blocks.proofs.data_group_block.DataGroupBlockBlockParse.TheImpl.Goals as goal

pub fields-asks : goal.fields-asks
fields-asks c = omega (arith, fixed_size fixed_dg c.requires)
