-- A data group's fields.
use Rattle.std.specs.Prelude.{List, ℕ}
use Rattle.mdf4.specs.Bytes.{num}
use Rattle.mdf4.specs.Kinds.{block_len}
use Rattle.blocks.specs.declared.data_group_block.DataGroupBlock.{DataGroupBlock}

unfoldable pub data_group_block_of : List ℕ → DataGroupBlock
data_group_block_of o = record {
  block_len = block_len o;
  next_dg_addr = num o 24 8;
  first_cg_addr = num o 32 8;
  data_block_addr = num o 40 8;
  comment_addr = num o 48 8;
  record_id_len = num o 56 1;
}
