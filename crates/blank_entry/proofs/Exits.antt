-- The exits of the blanker, and the recording that it leaves, from what its parts answer. Assumes nothing.
use mathlib.Core.Path.{◌≡◌, sym, ◌∙◌}
use mathlib.Core.List.{List, []}
use Prim.Native.Nat.{ℕ, ◌-◌}
use lib.ListN.{replicate}
use Rattle.std.specs.Prelude.{Ok}
use Rattle.mdf4.specs.Act.{Refusal, ok, err, and_then}
use Rattle.mdf4.specs.Layout.{Layout}
use Rattle.mdf4.specs.Clear.{clear_ranges}
use Rattle.mdf4.specs.Blank.{zeroed}
use Rattle.mdf4.specs.Answers.{Lent, made, filled, exit, clearable, blank_made, blank_exit, blanked, blank_recording}
use Rattle.file_layout.specs.declared.LentTables.{LentTables}
use Rattle.clear_layout.specs.Clearable.{Stands}
use Rattle.clear_layout.specs.declared.Clearable.{Clearable}
use Rattle.answers.specs.Entries.{left_in}
use Rattle.answers.proofs.Exits.{accepted_exit}

module _ (n : Lent) (r : List ℕ) where
  pub blank_refused : (e : Refusal) → clearable n r ≡ err e → blank_exit n r ≡ exit n (err e)
  unfolding blank_exit blank_made and_then
  blank_refused e h = rw h

  pub blank_untouched : (e : Refusal) → clearable n r ≡ err e → blank_recording n r ≡ r
  unfolding blank_recording blanked
  blank_untouched e h = rw h

  blank_made_of : (y : Layout) → clearable n r ≡ ok y → blank_exit n r ≡ exit n (ok (made y [] []))
  unfolding blank_exit blank_made and_then
  blank_made_of y h = rw h

  pub blank_zeroed : (y : Layout) → clearable n r ≡ ok y → blank_recording n r ≡ zeroed (clear_ranges r y) 0 r
  unfolding blank_recording blanked
  blank_zeroed y h = rw h

pub blank_accepted : {n : Lent} {r s : List ℕ} {x : Clearable} {t : LentTables} → Stands n r x t s → n.out ≡ 0
    → left_in (Ok (record { rows = x.rows; bytes = 0; total = 0 })) t (replicate n.scratch 0) [] ≡ blank_exit n r
unfolding filled
blank_accepted {n} {r} z e =
    let none : replicate {A = ℕ} (n.out - 0) 0 ≡ [] = rw e in
    rw none at (accepted_exit n (made z.layout [] []) z.fills) ∙ sym (blank_made_of n r z.layout z.is)
