-- A channel's fields.
use Rattle.std.specs.Prelude.{List, ℕ}
use Rattle.mdf4.specs.Bytes.{num}
use Rattle.mdf4.specs.Kinds.{block_len}
use Rattle.blocks.specs.declared.channel_block.ChannelBlock.{ChannelBlock}

unfoldable pub channel_block_of : List ℕ → ChannelBlock
channel_block_of o = record {
  block_len = block_len o;
  next_ch_addr = num o 24 8;
  component_addr = num o 32 8;
  name_addr = num o 40 8;
  source_addr = num o 48 8;
  conversion_addr = num o 56 8;
  data_addr = num o 64 8;
  unit_addr = num o 72 8;
  comment_addr = num o 80 8;
  channel_type = num o 88 1;
  sync_type = num o 89 1;
  data_type = num o 90 1;
  bit_offset = num o 91 1;
  byte_offset = num o 92 4;
  bit_count = num o 96 4;
  flags = num o 100 4;
  pos_invalidation_bit = num o 104 4;
  precision = num o 108 1;
}
