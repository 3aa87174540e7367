-- The exits of layout, listing and tree, from what their parts answer. Assumes nothing.
use mathlib.Core.Path.{◌≡◌}
use mathlib.Core.List.{List, []}
use Prim.Native.Nat.{ℕ, ◌-◌}
use lib.ListN.{replicate}
use Rattle.std.specs.Prelude.{Ok}
use Rattle.mdf4.specs.Act.{Refusal, ok, err, and_then}
use Rattle.mdf4.specs.Layout.{Layout}
use Rattle.mdf4.specs.Listing.{to_text}
use Rattle.mdf4.specs.Tree.{to_tree}
use Rattle.mdf4.specs.Answers.{Lent, made, filled, exit, laid, fitted}
use Rattle.mdf4.specs.Answers.{layout_made, layout_exit, to_text_made, to_text_exit, to_tree_made, to_tree_exit}
use Rattle.file_layout.specs.Tables.{Stands}
use Rattle.file_layout.specs.declared.LentTables.{LentTables}
use Rattle.file_layout.specs.declared.Rows.{Rows}
use Rattle.answers.specs.Entries.{left_in}
use Rattle.answers.proofs.Exits.{accepted_exit}

-- the exits of `layout`, which is lent no output
pub layout_accepted : {n : Lent} {r : List ℕ} {x : Rows} {t : LentTables} → n.out ≡ 0 → Stands (ok tt) n r x t
    → left_in (Ok (record { rows = x; bytes = 0; total = 0 })) t (replicate n.scratch 0) [] ≡ layout_exit n r
unfolding layout_exit layout_made and_then filled
layout_accepted {n} e s =
    let none : replicate {A = ℕ} (n.out - 0) 0 ≡ [] = rw e in
    rw s.is (rw none at (accepted_exit n (made s.layout [] []) s.fills))

pub layout_refused : (n : Lent) (r : List ℕ) (e : Refusal) → laid n r ≡ err e → layout_exit n r ≡ exit n (err e)
unfolding layout_exit layout_made and_then
layout_refused n r e h = rw h

-- the exits of `to_text`
module _ (n : Lent) (r : List ℕ) where
  pub text_refused : (e : Refusal) → laid n r ≡ err e → to_text_exit n r ≡ exit n (err e)
  unfolding to_text_exit to_text_made and_then
  text_refused e h = rw h

  pub text_made : (y : Layout) → laid n r ≡ ok y → to_text_exit n r ≡ exit n (fitted n.out y [] (to_text r y))
  unfolding to_text_exit to_text_made and_then
  text_made y h = rw h

-- the exits of `to_tree`
module _ (n : Lent) (r : List ℕ) where
  pub tree_laid_refused : (e : Refusal) → laid n r ≡ err e → to_tree_exit n r ≡ exit n (err e)
  unfolding to_tree_exit to_tree_made and_then
  tree_laid_refused e h = rw h

  pub tree_refused : (y : Layout) (e : Refusal) → laid n r ≡ ok y → to_tree r y ≡ err e → to_tree_exit n r ≡ exit n (err e)
  unfolding to_tree_exit to_tree_made and_then
  tree_refused y e h k = rw (h, k)

  pub tree_made : (y : Layout) (t p : List ℕ) → laid n r ≡ ok y → to_tree r y ≡ ok (t, p) → to_tree_exit n r ≡ exit n (fitted n.out y p t)
  unfolding to_tree_exit to_tree_made and_then
  tree_made y t p h k = rw (h, k)
