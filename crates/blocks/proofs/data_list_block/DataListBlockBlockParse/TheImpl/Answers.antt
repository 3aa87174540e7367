-- A block's own bytes have room for the fields.
use Rattle.blocks.proofs.DataListBlock.{dl_fits}
use Rattle.blocks.proofs.data_list_block.DataListBlockBlockParse.TheImpl.Goals as goal

pub fields-asks : goal.fields-asks
fields-asks c = dl_fits c.requires
