-- A block's own bytes have room for the fields.
use Rattle.blocks.proofs.SourceBlock.{si_fits}
use Rattle.blocks.proofs.source_block.SourceBlockBlockParse.TheImpl.Goals as goal

pub fields-asks : goal.fields-asks
fields-asks c = si_fits c.requires
