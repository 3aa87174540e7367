-- A source's fields. Its three links are the targets that the definition shows.
use Rattle.std.specs.Prelude.{List, ℕ, ◌+◌, get_or}
use Rattle.mdf4.specs.Bytes.{num}
use Rattle.mdf4.specs.Act.{SI}
use Rattle.mdf4.specs.Kinds.{block_len, data_at, shape}
use Rattle.blocks.specs.declared.source_block.SourceBlock.{SourceBlock}

unfoldable pub source_block_of : List ℕ → SourceBlock
source_block_of o = record {
  block_len = block_len o;
  name_addr = get_or ((shape SI).targets o) 0 0;
  path_addr = get_or ((shape SI).targets o) 1 0;
  comment_addr = get_or ((shape SI).targets o) 2 0;
  source_type = num o (data_at o) 1;
  bus_type = num o (data_at o + 1) 1;
  flags = num o (data_at o + 2) 1;
}
