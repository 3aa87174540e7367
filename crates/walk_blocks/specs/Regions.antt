-- What the functions for data blocks and data lists are told.
use Rattle.std.specs.Prelude.{◌≡◌, List, map, ◌⊎◌, ℕ, zero, suc, ◌+◌, ◌*◌, ◌≤◌, length, Option, Some, None}
use Rattle.mdf4.specs.Bytes.{words}
use Rattle.mdf4.specs.Act.{Kind, DT, SD, DL, UD, Link, refusal, Act, choose, pure, stop, ◌>>=◌, ◌>>◌, once, seen}
use Rattle.mdf4.specs.Kinds.{RecordLayout, no_records, records_in, make_link}
use Rattle.mdf4.specs.Walk.{enter, max_lists, list_too_deep, walk_data_list, walk_data_region}
use Rattle.blocks.specs.Kind.{kind_named}
use Rattle.blocks.specs.declared.kind.Kind as code
use Rattle.walk_state.specs.declared.RecordLayout as declared
use Rattle.walk_state.specs.Within.{layout_of}

-- a kind of which the header alone is read, with the three words of its row
pub record Data (h : RecordLayout) (k : code.Kind) (x : declared.RecordLayout) : Type 0 where
  pub one : (kind_named k ≡ DT) ⊎ (kind_named k ≡ SD) ⊎ (kind_named k ≡ UD)
  pub records : (o : List ℕ) → records_in (kind_named k) h o ≡ layout_of x

-- such a block is read and listed
unfoldable pub list_header : Kind → ℕ → RecordLayout → Act (Unit {0})
list_header k a h = enter k a h >> pure tt

-- a data list is listed and answers its links
unfoldable pub open_list : ℕ → Act (List Link)
open_list a = enter DL a (no_records 0) >>= λ b. pure b.1

-- all of a data list but what its links lead to: its links, none at all where it was visited; `depth` lists may still be entered
unfoldable pub enter_list : ℕ → ℕ → Act (Option (List Link))
enter_list zero a = seen a λ b. choose b (pure None) (stop DL a (refusal 15 a max_lists 0))
enter_list (suc depth) a = once DL a None (open_list a >>= λ ls. pure (Some ls))

-- a data list and what its links lead to
unfoldable pub data_list : ℕ → RecordLayout → ℕ → Act (Unit {0})
data_list zero h a = list_too_deep a
data_list (suc depth) h a = walk_data_list (walk_data_region depth h) a

-- the links of the list at a of the recording r, which has n
abbrev pub links_at : List ℕ → ℕ → ℕ → List Link
links_at r a n = map (make_link r) (words r (a + 24) n)

-- the same where it was entered
abbrev pub listed : List ℕ → ℕ → Option ℕ → Option (List Link)
listed r a (Some n) = Some (links_at r a n)
listed r a None = None

-- it has some, and they stand in the recording
pub record Inside (r : List ℕ) (a n : ℕ) : Type 0 where
  pub some : 1 ≤ n
  pub inside : a + 24 + 8 * n ≤ length r
