-- Parts of the walk of a channel.
use Rattle.std.specs.Prelude.{ℕ, eqb}
use Rattle.mdf4.specs.Bytes.{num}
use Rattle.mdf4.specs.Act.{CN, Act, choose, pure, ◌>>=◌, ◌>>◌, by_link}
use Rattle.mdf4.specs.Kinds.{no_records, make_link}
use Rattle.mdf4.specs.Walk.{enter, addr, link_of, follow, walk_text_like, walk_source, walk_conversion, max_lists, walk_data_region}
use Rattle.blocks.specs.declared.channel_block.ChannelBlock.{ChannelBlock}

-- what a channel at a with the fields x leads to: name, source, conversion, unit and comment
abbrev pub channel_texts : ℕ → ChannelBlock → Act (Unit {0})
channel_texts a x =
    by_link a 2 (walk_text_like x.name_addr) >> by_link a 3 (walk_source x.source_addr) >> walk_conversion a x.conversion_addr
    >> by_link a 6 (walk_text_like x.unit_addr) >> by_link a 7 (walk_text_like x.comment_addr)

-- its own data
unfoldable pub channel_data : ChannelBlock → Act (Unit {0})
channel_data x r = choose (eqb x.channel_type 1) (walk_data_region max_lists (no_records 0) (make_link r x.data_addr)) (pure tt) r

-- what is left once it is listed
abbrev pub channel_links : ℕ → ChannelBlock → Act (ℕ × Unit {0})
channel_links a x = channel_texts a x >> by_link a 5 (channel_data x) >> by_link a 0 (pure (x.next_ch_addr, tt))

-- what is left once its offset is marked
unfoldable pub enter_channel : ℕ → Act (ℕ × Unit {0})
enter_channel a = enter CN a (no_records 0) >>= λ b.
    follow a b 2 walk_text_like >> follow a b 3 walk_source >> walk_conversion a (addr b 4) >> follow a b 6 walk_text_like >> follow a b 7 walk_text_like
    >> by_link a 5 (choose (eqb (num b.0 88 1) 1) (walk_data_region max_lists (no_records 0) (link_of b 5)) (pure tt))
    >> follow a b 0 (λ next. pure (next, tt))
