-- The two words of flags, as the identification's fields have them, and what the definition says of them. Assumes nothing.
use mathlib.Core.Path.{◌≡◌, ap, ◌∙◌}
use mathlib.Core.List.{List}
use native.Mathlib.Omega.{arith}
use Rattle.mdf4.specs.Bytes.{bytes, num}
use Rattle.mdf4.proofs.Fields.{num_bytes}
use Rattle.blocks.specs.IdentificationBlock.{Identification, identification_of, identified}
use Rattle.blocks.specs.declared.identification_block.IdentificationBlock.{IdentificationBlock}
use Prim.Native.Nat.{ℕ}

pub record Words (r : List ℕ) (b : IdentificationBlock) : Type 0 where
  pub standard : b.standard_unfinalized_flags ≡ num r 60 2
  pub custom : b.custom_unfinalized_flags ≡ num r 62 2

pub words_are : (r : List ℕ) (b : IdentificationBlock) → identified b ≡ identification_of (bytes r 0 64) → Words r b
unfolding identified identification_of
words_are r b e = record {
  standard = ap (λ (x : Identification). x.standard_unfinalized_flags) e ∙ num_bytes r 0 64 60 2 (omega arith);
  custom = ap (λ (x : Identification). x.custom_unfinalized_flags) e ∙ num_bytes r 0 64 62 2 (omega arith);
}
