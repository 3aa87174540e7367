-- The exits of the clear list, from what its parts answer. Assumes nothing.
use mathlib.Core.Path.{◌≡◌}
use mathlib.Core.List.{List, []}
use Prim.Native.Nat.{ℕ}
use lib.ListN.{length}
use Rattle.mdf4.specs.Act.{Refusal, ok, err, and_then}
use Rattle.mdf4.specs.Layout.{Layout}
use Rattle.mdf4.specs.Clear.{clear_ranges, clr_bytes}
use Rattle.mdf4.specs.Answers.{Lent, exit, clearable, fitted, clear_list_made, clear_list_exit}

module _ (n : Lent) (r : List ℕ) where
  pub clear_list_refused : (e : Refusal) → clearable n r ≡ err e → clear_list_exit n r ≡ exit n (err e)
  unfolding clear_list_exit clear_list_made and_then
  clear_list_refused e h = rw h

  pub clear_list_made_of : (y : Layout) → clearable n r ≡ ok y
      → clear_list_exit n r ≡ exit n (fitted n.out y [] (clr_bytes (length r) (clear_ranges r y)))
  unfolding clear_list_exit clear_list_made and_then
  clear_list_made_of y h = rw h
