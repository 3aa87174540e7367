-- The definition's `clearable`, step by step, and what an entry takes from it. Assumes nothing.
use mathlib.Core.Path.{◌≡◌, ap, ◌∙◌}
use mathlib.Core.List.{List, map}
use Prim.Native.Nat.{ℕ, ◌/◌}
use native.Mathlib.Omega.{arith}
use lib.ListN.{length}
use Rattle.std.proofs.Common.{IsErrAnd}
use Rattle.std.specs.Prelude.{Result, Ok, Err}
use Rattle.mdf4.specs.Act.{ok, err, and_then}
use Rattle.mdf4.specs.Layout.{compute_gaps, Layout, finalized}
use Rattle.mdf4.specs.Clear.{clear_ranges}
use Rattle.mdf4.specs.Answers.{Lent, limits, pair_words, laid, laid_finalized, clearable}
use Rattle.mdf4.proofs.Laid.{clear_apart, clear_below}
use Rattle.mdf4.proofs.Demand3.{clearable_is}
use Rattle.blocks.specs.Errors.{numbers}
use Rattle.blocks.specs.declared.error.MdfError.{MdfError}
use Rattle.tables.specs.Gaps.{range_of}
use Rattle.tables.specs.Rows.{table}
use Rattle.tables.proofs.Chunks.{map-table}
use Rattle.file_layout.specs.Tables.{LaidMet}
use Rattle.file_layout.specs.declared.LentTables.{LentTables}
use Rattle.clear_ranges.specs.Spared.{SparedMet}
use Rattle.clear_ranges.specs.Sweep.{Inner}
use Rattle.clear_layout.specs.declared.Clearable.{Clearable}
use Rattle.clear_layout.specs.Clearable.{Stands, ClearableMet}

-- the walk, the flags or the gap table refuse
pub first_refused : (n : Lent) {r : List ℕ} {t : LentTables} {e : MdfError} → LaidMet (finalized r) n r (Err e) t → clearable n r ≡ err (numbers e)
unfolding clearable laid_finalized and_then
first_refused n m = rw m.is

-- the answers of `sort_spared`
module _ (n : Lent) {r s : List ℕ} {y : Layout} (h : laid_finalized n r ≡ ok y) where
  pub spared_refused : {e : MdfError} → SparedMet (Err e) r y n.scratch s → clearable n r ≡ err (numbers e)
  unfolding clearable and_then
  spared_refused m = rw (h, m.says)

  pub spared_is : {k : ℕ} → SparedMet (Ok k) r y n.scratch s → clearable n r ≡ ok y
  unfolding clearable and_then
  spared_is m = rw (h, m.says.0)

-- what `?` hands on
pub refused_handed : {n : Lent} {r s : List ℕ} {t : LentTables} (x : Result Clearable MdfError) (e : MdfError) → IsErrAnd x (λ d. d ≡ e)
    → clearable n r ≡ err (numbers e) → ClearableMet n r x t s
refused_handed (Ok a) e h p = absurd h
refused_handed (Err d) e h p = record { is = rw h p }

-- what the rows of the scratch table leave: the clear ranges, which lie inside the recording
module _ {n : Lent} {r : List ℕ} {x : Clearable} {t : LentTables} {s : List ℕ} (z : Stands n r x t s)
    {rows : List (List ℕ)} (e : rows ≡ table pair_words (λ row. row) x.scratch s) where
  pub left_are : compute_gaps (length r) 0 (map range_of rows) ≡ clear_ranges r z.layout
  left_are =
      ap (λ (ws : List (List ℕ)). compute_gaps (length r) 0 (map range_of ws)) e
      ∙ ap (compute_gaps (length r) 0) (map-table pair_words x.scratch s (omega arith)) ∙ z.leaves.are

  pub inner : Inner (length r) (compute_gaps (length r) 0 (map range_of rows))
  unfolding laid
  inner =
      let c = clearable_is n r z.layout z.is in
      rw left_are (record {
        apart = clear_apart (limits n) (n.gaps / pair_words) r z.layout c;
        below = clear_below (limits n) (n.gaps / pair_words) r z.layout c;
      })
