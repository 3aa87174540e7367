-- Parts of the walk of a data group.
use Rattle.std.specs.Prelude.{false, ℕ}
use Rattle.mdf4.specs.Bytes.{num}
use Rattle.mdf4.specs.Act.{DG, Link, Act, pure, ◌>>=◌, ◌>>◌, chain, by_link}
use Rattle.mdf4.specs.Kinds.{no_records}
use Rattle.mdf4.specs.Walk.{enter, follow, follow_link, walk_text_like, walk_channel_group, walk_data_region, max_lists}
use Rattle.blocks.specs.declared.data_group_block.DataGroupBlock.{DataGroupBlock}
use Rattle.walker.specs.Groups.{handed}

-- what is left once it is listed at a, with the link l to its data: its comment, its channel groups, then its data
abbrev pub data_group_links : ℕ → ℕ → DataGroupBlock → Link → Act (ℕ × Unit {0})
data_group_links fuel a x l =
    by_link a 3 (walk_text_like x.comment_addr)
    >> by_link a 1 (handed (chain fuel (walk_channel_group fuel x.record_id_len) x.first_cg_addr (false, no_records x.record_id_len)))
    >>= λ h. by_link a 2 (walk_data_region max_lists h l)
    >> by_link a 0 (pure (x.next_dg_addr, tt))

-- what is left once its offset is marked
unfoldable pub enter_data_group : ℕ → ℕ → Act (ℕ × Unit {0})
enter_data_group fuel a = enter DG a (no_records 0) >>= λ b.
    follow a b 3 walk_text_like
    >> follow a b 1 (λ first. chain fuel (walk_channel_group fuel (num b.0 56 1)) first (false, no_records (num b.0 56 1)))
    >>= λ got. follow_link a b 2 (walk_data_region max_lists got.1)
    >> follow a b 0 (λ next. pure (next, tt))
