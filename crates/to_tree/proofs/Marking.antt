-- Tree marks in the block table: marking a row changes its mark alone. Assumes nothing.
use mathlib.Core.Path.{◌≡◌, refl, sym, ap, ap₂, ◌∙◌}
use mathlib.Core.Bool.{Bool, true, false}
use mathlib.Core.List.{List, [], ◌∷◌, ◌++◌, append_assoc}
use Prim.Native.Nat.{ℕ, zero, suc, ◌+◌, ◌*◌, ◌<◌}
use native.Mathlib.Omega.{arith}
use lib.ListN.{length, get_or, take, drop, set}
use Rattle.std.proofs.Common.{map}
use lib.Seq.{get_or-set_other}
use borrow.Author.Tests.{eq-eqb, ne_eqb}
use Rattle.mdf4.specs.Bytes.{bit, concat_map}
use Rattle.mdf4.specs.Act.{Row, elem}
use Rattle.mdf4.specs.Answers.{row_words, block_row_words}
use Rattle.mdf4.specs.Layout.{Layout}
use Rattle.mdf4.proofs.Order.{Above, Rising}
use Rattle.tables.specs.Rows.{row_of_words, held_rows, row_at}
use Rattle.tables.proofs.Words.{row_word, rows_at, rows_back, table_at}
use Rattle.tables.proofs.Chunks.{held_rows_are}
use Rattle.block_search.proofs.Searching.{rising_less}
use Rattle.to_tree.specs.Ready.{rows_of}
use Rattle.to_tree.specs.Printing.{Holds}

-- the word of row i that is its mark
abbrev pub mark_at : ℕ → ℕ
mark_at i = i * block_row_words + 11

-- rows do not show their marks
row_kept : (b b' : List ℕ) (j : ℕ) → ((k : ℕ) → k < block_row_words → (k ≡ 11 → ⊥) → get_or b' (j * block_row_words + k) 0 ≡ get_or b (j * block_row_words + k) 0)
    → row_at j b' ≡ row_at j b
unfolding row_at row_of_words
row_kept b b' j h =
    let word : List ℕ → ℕ → ℕ = λ t k. get_or (take block_row_words (drop (j * block_row_words) t)) k 0 in
    let at : (k : ℕ) → k < block_row_words → (k ≡ 11 → ⊥) → word b' k ≡ word b k =
    λ k l q. row_word block_row_words j k b' (omega arith) ∙ h k l q ∙ sym (row_word block_row_words j k b (omega arith)) in
    rw (
      at 0 (omega arith) (λ e. omega arith),
      at 1 (omega arith) (λ e. omega arith),
      at 2 (omega arith) (λ e. omega arith),
      at 3 (omega arith) (λ e. omega arith),
      at 4 (omega arith) (λ e. omega arith),
      at 5 (omega arith) (λ e. omega arith),
      at 6 (omega arith) (λ e. omega arith),
      at 7 (omega arith) (λ e. omega arith),
      at 8 (omega arith) (λ e. omega arith),
      at 9 (omega arith) (λ e. omega arith),
      at 10 (omega arith) (λ e. omega arith),
      at 12 (omega arith) (λ e. omega arith),
      at 13 (omega arith) (λ e. omega arith),
    )

pub mark_kept : (b : List ℕ) (i j : ℕ) → row_at j (set b (mark_at i) 1) ≡ row_at j b
mark_kept b i j = row_kept b (set b (mark_at i) 1) j (λ k h q. get_or-set_other b (mark_at i) (j * block_row_words + k) 1 0 (λ e. omega arith))

pub bit_true : (x : Bool) → (bit x ≡ 0 → ⊥) → x ≡ true
unfolding bit
bit_true true h = refl
bit_true false h = absurd (h refl)

pub bit_false : (x : Bool) → bit x ≡ 0 → x ≡ false
unfolding bit
bit_false true h = absurd (omega arith)
bit_false false h = refl

-- the mark of a row
marked : (v : List ℕ) (ws : List Row) (z : List ℕ) (i : ℕ) (d : Row) → i < length ws → get_or (concat_map (row_words v) ws ++ z)
    (mark_at i) 0 ≡ bit (elem (get_or ws i d).off v)
unfolding concat_map row_words
marked v [] z i d h = absurd (omega arith)
marked v (w ∷ ws) z zero d h = refl
marked v (w ∷ ws) z (suc i) d h =
    let e : mark_at (suc i) ≡ suc (suc (suc (suc (suc (suc (suc (suc (suc (suc (suc (suc (suc (suc (mark_at i)))))))))))))) = omega arith in
    rw e (marked v ws z i d (omega arith))

-- marking a row of rising offsets
row_apart : (a : ℕ) (v : List ℕ) (w : Row) → (w.off ≡ a → ⊥) → row_words (a ∷ v) w ≡ row_words v w
unfolding row_words elem
row_apart a v w h = rw (ne_eqb w.off a h)

rows_apart : (a : ℕ) (v : List ℕ) (ws : List Row) → Above a ws → concat_map (row_words (a ∷ v)) ws ≡ concat_map (row_words v) ws
unfolding concat_map
rows_apart a v [] h = refl
rows_apart a v (w ∷ ws) h = ap₂ (λ (x y : List ℕ). x ++ y) (row_apart a v w (λ e. omega (arith, h.0))) (rows_apart a v ws h.1)

row_marked : (v : List ℕ) (w : Row) (t : List ℕ) → set (row_words v w ++ t) 11 1 ≡ row_words (w.off ∷ v) w ++ t
unfolding row_words elem bit
row_marked v w t = rw (eq-eqb w.off w.off refl)

row_passed : (v : List ℕ) (w : Row) (t : List ℕ) (i : ℕ) → set (row_words v w ++ t) (mark_at (suc i)) 1 ≡ row_words v w ++ set t (mark_at i) 1
unfolding row_words
row_passed v w t i =
    let e : mark_at (suc i) ≡ suc (suc (suc (suc (suc (suc (suc (suc (suc (suc (suc (suc (suc (suc (mark_at i)))))))))))))) = omega arith in
    rw e

marked_set : (v : List ℕ) (ws : List Row) (z : List ℕ) (i : ℕ) (d : Row) → Rising ws → i < length ws
    → set (concat_map (row_words v) ws ++ z) (mark_at i) 1 ≡ concat_map (row_words ((get_or ws i d).off ∷ v)) ws ++ z
unfolding concat_map
marked_set v [] z i d r h = absurd (omega arith)
marked_set v (w ∷ ws) z zero d r h =
    rw (
      rows_apart w.off v ws r.0,
      append_assoc (row_words v w) (concat_map (row_words v) ws) z,
      append_assoc (row_words (w.off ∷ v) w)
          (concat_map (row_words v) ws) z,
    )
    (row_marked v w (concat_map (row_words v) ws ++ z))
marked_set v (w ∷ ws) z (suc i) d r h =
    let l : w.off < (get_or ws i d).off = rising_less (w ∷ ws) 0 (suc i) d r (omega arith) h in
    rw (
      row_apart (get_or ws i d).off v w (λ e. omega arith),
      append_assoc (row_words v w)
          (concat_map (row_words v) ws) z,
      append_assoc (row_words v w) (concat_map (row_words ((get_or ws i d).off ∷ v)) ws) z,
    )
    (row_passed v w (concat_map (row_words v) ws ++ z) i ∙ ap (λ (t : List ℕ). row_words v w ++ t) (marked_set v ws z i d r.1 (omega arith)))

-- a row of the arrays
pub row_shown : (n : ℕ) (b : List ℕ) (i : ℕ) (d : List ℕ) → i < n → row_of_words (get_or (rows_of n b) i d) ≡ row_at i b
unfolding row_at
row_shown n b i d h = ap row_of_words (table_at block_row_words (λ row. row) n i b d h)

-- what the tables hold
module _ {n : ℕ} {b : List ℕ} {l : List (List ℕ)} {y : Layout} {z v : List ℕ} (h : Holds n b l y z v) where
  pub rows_held : y.blocks ≡ held_rows n b
  rows_held = rw (h.count, h.rows) (sym (rows_back v y.blocks z))

  pub rows_shown : y.blocks ≡ map row_of_words (rows_of n b)
  rows_shown = rows_held ∙ sym (held_rows_are n b)

  pub row_held : (i : ℕ) (d : Row) → i < n → get_or y.blocks i d ≡ row_at i b
  row_held i d k = rw rows_held (rows_at n i b d k)

  pub mark_held : (i : ℕ) → i < n → get_or b (mark_at i) 0 ≡ bit (elem (row_at i b).off v)
  mark_held i k =
      let e = marked v y.blocks z i (row_at i b) (omega (arith, h.count)) in
      ap (λ (t : List ℕ). get_or t (mark_at i) 0) h.rows ∙ e ∙ ap (λ (w : Row). bit (elem w.off v)) (row_held i (row_at i b) k)

  pub holds_marked : (i : ℕ) → i < n → Holds n (set b (mark_at i) 1) l y z ((row_at i b).off ∷ v)
  holds_marked i k = record {
    rows = ap (λ (t : List ℕ). set t (mark_at i) 1) h.rows
        ∙ marked_set v y.blocks z i (row_at i b) h.rising (omega (arith, h.count))
        ∙ ap (λ (w : Row). concat_map (row_words (w.off ∷ v)) y.blocks ++ z) (row_held i (row_at i b) k);
    count = h.count;
    links = h.links;
    rising = h.rising;
  }
