-- A channel group's fields.
use Rattle.std.specs.Prelude.{cond, List, ℕ, ◌+◌, leb}
use Rattle.mdf4.specs.Bytes.{num}
use Rattle.mdf4.specs.Kinds.{block_len, links_nr, data_at, master_cg_addr}
use Rattle.blocks.specs.declared.channel_group_block.ChannelGroupBlock.{ChannelGroupBlock}

unfoldable pub channel_group_block_of : List ℕ → ChannelGroupBlock
channel_group_block_of o = record {
  block_len = block_len o;
  links_nr = links_nr o;
  next_cg_addr = num o 24 8;
  first_ch_addr = num o 32 8;
  acq_name_addr = num o 40 8;
  acq_source_addr = num o 48 8;
  first_sample_reduction_addr = num o 56 8;
  comment_addr = num o 64 8;
  master_cg_addr = cond (leb 7 (links_nr o)) (master_cg_addr o) 0;
  record_id = num o (data_at o) 8;
  cycles_nr = num o (data_at o + 8) 8;
  flags = num o (data_at o + 16) 2;
  samples_byte_nr = num o (data_at o + 24) 4;
  invalidation_bytes_nr = num o (data_at o + 28) 4;
}
