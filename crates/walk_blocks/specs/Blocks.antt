-- A block that was read, as it is handed to be listed.
use Rattle.std.specs.Prelude.{◌≡◌, List, map, ℕ}
use Rattle.mdf4.specs.Act.{ok, Kind}
use Rattle.mdf4.specs.Kinds.{RecordLayout, read_block, make_link, name_ok}
use Rattle.blocks.specs.Kind.{kind_named}
use Rattle.walk_state.specs.declared.Block.{Block}
use Rattle.walk_state.specs.Within.{Tells}

-- x is the block of the kind k at a of the recording r, with the record layout h handed down; its links lead to ts, and its name
-- is accepted
pub record Found (k : Kind) (h : RecordLayout) (r : List ℕ) (a : ℕ) (x : Block) (ts : List ℕ) : Type 0 where
  pub own : List ℕ
  pub read : read_block k r a ≡ ok own
  pub kind : kind_named x.kind ≡ k
  pub at : x.offset ≡ a
  pub tells : Tells h own x ts
  pub name : name_ok k r (map (make_link r) ts) ≡ ok tt
