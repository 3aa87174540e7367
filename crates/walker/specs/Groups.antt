-- Parts of the walk of a channel group, and what the channel groups of a data group hand down.
use Rattle.std.specs.Prelude.{ℕ, ◌+◌}
use Rattle.mdf4.specs.Act.{CG, Act, pure, ◌>>=◌, ◌>>◌, chain, by_link}
use Rattle.mdf4.specs.Kinds.{RecordLayout, no_records, cg_records}
use Rattle.mdf4.specs.Walk.{Handed, hand_down, enter, follow, walk_text_like, walk_source, walk_channel}
use Rattle.blocks.specs.declared.channel_group_block.ChannelGroupBlock.{ChannelGroupBlock}
use Rattle.walk_state.specs.Within.{layout_of}
use Rattle.walker.specs.declared.groups.Grouped.{Grouped}

-- the record layout of a channel group with the fields x, whose records have ids of `id_len` bytes
abbrev pub group_records : ℕ → ChannelGroupBlock → RecordLayout
group_records id_len x = record {
  record_size = id_len + x.samples_byte_nr + x.invalidation_bytes_nr;
  invalidation_bytes = x.invalidation_bytes_nr;
  record_id_len = id_len;
}

-- what is left once it is listed at a: its acquisition name, source and comment, then its channels
abbrev pub channel_group_links : ℕ → ℕ → ℕ → Handed → ChannelGroupBlock → Act (ℕ × Handed)
channel_group_links fuel id_len a got x =
    by_link a 2 (walk_text_like x.acq_name_addr) >> by_link a 3 (walk_source x.acq_source_addr) >> by_link a 5 (walk_text_like x.comment_addr)
    >> by_link a 1 (chain fuel walk_channel x.first_ch_addr tt)
    >> by_link a 0 (pure (x.next_cg_addr, hand_down (group_records id_len x) got))

-- what is left once its offset is marked
unfoldable pub enter_channel_group : ℕ → ℕ → ℕ → Handed → Act (ℕ × Handed)
enter_channel_group fuel id_len a got = enter CG a (no_records id_len) >>= λ b.
    follow a b 2 walk_text_like >> follow a b 3 walk_source >> follow a b 5 walk_text_like
    >> follow a b 1 (λ first. chain fuel walk_channel first tt)
    >> follow a b 0 (λ next. pure (next, hand_down (cg_records id_len b.0) got))

-- the answer of a channel group, which hands its record layout down to its data group
abbrev pub grouped_at : Handed → Grouped → ℕ × Handed
grouped_at got g = (g.next, hand_down (layout_of g.layout) got)

-- of what a chain of channel groups hands down, the record layout
unfoldable pub handed : Act Handed → Act RecordLayout
handed m = m >>= λ got. pure got.1
