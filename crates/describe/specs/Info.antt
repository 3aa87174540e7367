-- What the writers ask of a row of the block table.
use Rattle.std.specs.Prelude.{◌≡◌, List, ℕ}
use Rattle.mdf4.specs.Act.{Kind}
use Rattle.mdf4.proofs.Good.{Readable}
use Rattle.blocks.specs.Kind.{kind_named}
use Rattle.tables.specs.Rows.{row_of}
use Rattle.tables.specs.declared.BlockInfo.{BlockInfo}

-- the block is of the kind k, and can be read in the recording r
pub record OfKind (k : Kind) (r : List ℕ) (b : BlockInfo) : Type 0 where
  pub kind : kind_named b.kind ≡ k
  pub readable : Readable r (row_of b)
