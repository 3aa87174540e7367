-- A header's fields.
use Rattle.std.specs.Prelude.{List, ℕ}
use Rattle.fmt.specs.Digits.{i16_of}
use Rattle.mdf4.specs.Bytes.{num}
use Rattle.blocks.specs.declared.header_block.HeaderBlock.{HeaderBlock}

unfoldable pub header_block_of : List ℕ → HeaderBlock
header_block_of o = record {
  first_dg_addr = num o 24 8;
  file_history_addr = num o 32 8;
  channel_tree_addr = num o 40 8;
  first_attachment_addr = num o 48 8;
  first_event_addr = num o 56 8;
  comment_addr = num o 64 8;
  abs_time = num o 72 8;
  tz_offset = i16_of (num o 80 2);
  time_flags = num o 84 1;
  time_quality = num o 85 1;
  flags = num o 86 1;
}
