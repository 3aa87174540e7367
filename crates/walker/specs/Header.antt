-- Parts of the walks of the identification and of the header.
use Rattle.std.specs.Prelude.{ℕ}
use Rattle.mdf4.specs.Act.{ID, HD, Act, pure, ◌>>=◌, ◌>>◌, chain, by_link}
use Rattle.mdf4.specs.Kinds.{no_records}
use Rattle.mdf4.specs.Walk as definition
use Rattle.mdf4.specs.Walk.{header_at, enter, walk_text_like, walk_data_group}
use Rattle.blocks.specs.declared.header_block.HeaderBlock.{HeaderBlock}

-- what is left once the identification's offset is marked
abbrev pub enter_identification : Act (Unit {0})
enter_identification = enter ID 0 (no_records 0) >> pure tt

-- what is left once the header is listed: its comment, then the data groups
abbrev pub header_links : ℕ → HeaderBlock → Act (Unit {0})
header_links fuel x = by_link header_at 5 (walk_text_like x.comment_addr) >> by_link header_at 0 (chain fuel (walk_data_group fuel) x.first_dg_addr tt)

-- what is left once its offset is marked
unfoldable pub enter_header : ℕ → Act (Unit {0})
enter_header fuel = enter HD header_at (no_records 0) >>= definition.walk_from_header fuel
