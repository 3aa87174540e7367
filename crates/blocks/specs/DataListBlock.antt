-- A data list's fields, and its two length tests.
use Rattle.std.specs.Prelude.{◌≡◌, cond, List, ℕ, ◌+◌, ◌*◌, ◌%◌, ◌≤◌, eqb, length}
use Rattle.mdf4.specs.Bytes.{num}
use Rattle.mdf4.specs.Act.{Out, and_then}
use Rattle.mdf4.specs.Kinds.{block_len, links_nr, data_at}
use Rattle.blocks.specs.Extents.{need_or}
use Rattle.blocks.specs.declared.data_list_block.DataListBlock.{DataListBlock}

unfoldable pub data_list_block_of : List ℕ → DataListBlock
data_list_block_of o = record {
  block_len = block_len o;
  links_nr = links_nr o;
  next = num o 24 8;
  flags = num o (data_at o) 1;
  data_block_nr = num o (data_at o + 4) 4;
  data_block_len = cond (eqb (num o (data_at o) 1 % 2) 1) (num o (data_at o + 8) 8) 0;
}

-- the fields stand in the bytes o
pub record ListFits (o : List ℕ) : Type 0 where
  pub next : 32 ≤ length o
  pub flags : 24 + 8 * num o 16 8 + 8 ≤ length o
  pub equal : num o (24 + 8 * num o 16 8) 1 % 2 ≡ 1 → 24 + 8 * num o 16 8 + 16 ≤ length o

-- the block at a of the recording r has n links
unfoldable pub behind_links : List ℕ → ℕ → ℕ → Out ℕ
behind_links r a n =
    and_then (need_or (length r) a (32 + 8 * n)) (λ m.
    need_or (length r) a (m + 8 * cond (eqb (num r (a + 24 + 8 * n) 1 % 2) 1) 1 (num r (a + 24 + 8 * n + 4) 4)))
