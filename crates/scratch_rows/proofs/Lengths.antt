-- How many bytes of a block are read, and that they lie inside the file.
use mathlib.Core.Path.{◌≡◌, refl, ap, ◌∙◌}
use mathlib.Core.Bool.{false}
use mathlib.Core.List.{List}
use Prim.Native.Nat.{ℕ, ◌+◌, ◌≤◌}
use native.Mathlib.Omega.{arith}
use lib.ListN.{length}
use Rattle.std.specs.Prelude.{Result, Ok}
use Rattle.mdf4.specs.Bytes.{bytes}
use Rattle.mdf4.specs.Act as spec
use Rattle.mdf4.specs.Kinds.{shape, read_len}
use Rattle.mdf4.specs.Kinds as kinds
use Rattle.mdf4.proofs.Reading.{need_least, read_whole}
use Rattle.mdf4.proofs.Good.{Readable}
use Rattle.blocks.specs.declared.kind.Kind.{Kind}
use Rattle.blocks.specs.declared.kind.Kind.TheVariants.{ID, HD, DG, CG, CN, SI, TX, MD, DT, SD, DL, UT, UD}
use Rattle.blocks.specs.declared.error.MdfError.{MdfError}
use Rattle.blocks.specs.Errors.{told}
use Rattle.blocks.specs.Kind.{kind_named}
use Rattle.blocks.specs.Parse.{parsed}
use Rattle.blocks.proofs.Extents.{own_of}
use Rattle.blocks.proofs.Parse.{parsed_read}
use Rattle.tables.specs.declared.BlockInfo.{BlockInfo}
use Rattle.tables.specs.Rows.{row_of}
use Rattle.scratch_rows.specs.Covers.{CanRead}

pub read_least : (k : spec.Kind) (r : List ℕ) (a : ℕ) → 24 ≤ read_len k r a
unfolding read_len
read_least k r a = omega (arith, need_least k (bytes r a 24))

-- what its parser answers where it can be read
pub told_len : (k : spec.Kind) (r : List ℕ) (a : ℕ) → CanRead k r a → (x : Result ℕ MdfError) → told x ≡ parsed length k r a → x ≡ Ok (read_len k r a)
told_len k r a q x e = parsed_read length k r a q x e ∙ ap Ok (own_of k r a q).len

-- a row's own bytes lie inside the file
pub row_whole : (r : List ℕ) (b : BlockInfo) → Readable r (row_of b) → b.offset + read_len (kind_named b.kind) r b.offset ≤ length r
unfolding row_of
row_whole r b q = read_whole (kind_named b.kind) r b.offset _ q

pub not_channel : (k : Kind) → (k ≡ CN → ⊥) → kinds.is (kind_named k) spec.CN ≡ false
unfolding kinds.is shape
not_channel ID n = refl
not_channel HD n = refl
not_channel DG n = refl
not_channel CG n = refl
not_channel CN n = absurd (n refl)
not_channel SI n = refl
not_channel TX n = refl
not_channel MD n = refl
not_channel DT n = refl
not_channel SD n = refl
not_channel DL n = refl
not_channel UT n = refl
not_channel UD n = refl
