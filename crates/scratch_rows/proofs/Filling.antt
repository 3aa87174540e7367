-- The scratch table filled row by row.
use mathlib.Core.Path.{◌≡◌, refl, sym, ◌∙◌}
use mathlib.Core.Bool.{Bool, true, false, not, and-true, and-false}
use mathlib.Core.List.{List, [], ◌∷◌, map}
use Prim.Native.Nat.{ℕ, ◌+◌, ◌-◌, ◌%◌, ◌≤◌, ◌<◌, min, max}
use native.Mathlib.Omega.{arith}
use lib.Dec.{leb, eqb}
use lib.ListN.{length, get_or, take}
use borrow.Author.Tests.{le-leb, lt-leb, leb-true, ne_eqb}
use Rattle.std.proofs.lemmas.List.{map_more}
use Rattle.mdf4.specs.Bytes.{Range, little, num, concat_map}
use Rattle.mdf4.specs.Act.{Row, Link}
use Rattle.mdf4.specs.Kinds.{mark_of, block_len, make_link}
use Rattle.mdf4.specs.Reads.{leads_to_block, link_ranges}
use Rattle.mdf4.proofs.Bytes.{and_right}
use Rattle.mdf4.proofs.Lists.{concat_map_snoc}
use Rattle.mdf4.proofs.Fields.{num_bytes}
use Rattle.tables.specs.declared.RangeTable.{RangeTable}
use Rattle.tables.specs.Gaps.{Pushed, Pushes}
use Rattle.tables.proofs.Gapping.{pushes_none, pushes_then}
use Rattle.scratch_rows.specs.Covers.{row_cover, linked_end, block_cover, linked_cover, target_cover, link_cover, covers}

-- nothing of a block or link is pushed
pub pushes_no : {ps : List Range} (q : RangeTable) → ps ≡ [] → Pushes q ps q
pushes_no q e = rw e (pushes_none q)

-- the target of a link
module _ (r : List ℕ) (t : ℕ) where
  pub target_null : t ≡ 0 → target_cover r t ≡ []
  unfolding target_cover linked_cover link_ranges leads_to_block make_link little
  target_null e = rw e refl

  pub target_far : length r < t + 4 → target_cover r t ≡ []
  unfolding target_cover linked_cover link_ranges leads_to_block make_link little
  target_far h = rw (lt-leb (t + 4) (length r) h, and-false (not (eqb t 0)))

  -- whether it leads to a block
  pub block_short : length r < t + 24 → false ≡ leads_to_block (length r) (make_link r t)
  unfolding leads_to_block make_link
  block_short h = rw (lt-leb (t + 24) (length r) h, and-false)

  module _ (some : t ≡ 0 → ⊥) (there : t + 4 ≤ length r) where
    found_is : (make_link r t).found ≡ 1 + num r t 4
    unfolding make_link
    found_is = rw (ne_eqb t 0 some, le-leb (t + 4) (length r) there)

    pub block_marked : {x : Bool} → t + 24 ≤ length r → x ≡ eqb (num r t 4 % 65536) 0x2323 → x ≡ leads_to_block (length r) (make_link r t)
    unfolding leads_to_block little
    block_marked h e =
        let m : 1 + num r t 4 - 1 ≡ num r t 4 = omega arith in
        e ∙ rw (found_is, m) (unfold make_link in rw (le-leb (t + 24) (length r) h) (sym (and-true _)))

    pub target_four : false ≡ leads_to_block (length r) (make_link r t) → target_cover r t ≡ (t, t + 4) ∷ []
    unfolding target_cover linked_cover link_ranges
    target_four e = rw (← e, found_is, ne_eqb (1 + num r t 4) 0 (λ z. omega arith)) (unfold make_link in refl)

  target_block : true ≡ leads_to_block (length r) (make_link r t) → target_cover r t ≡ block_cover r t
  unfolding target_cover linked_cover
  target_block e = rw (← e) (unfold make_link in refl)

  pub block_whole : true ≡ leads_to_block (length r) (make_link r t) → t + 24 ≤ length r
  unfolding leads_to_block make_link
  block_whole e =
      leb-true (t + 24) (length r) (and_right (eqb (((make_link r t).found - 1) % 65536) (mark_of "##")) (leb (t + 24) (length r)) (sym e))

  -- where a block ends, and both its ranges
  pub block_end : {x : ℕ} → x ≡ max (t + 24) (min (t + num r (t + 8) 8) (length r)) → x ≡ linked_end r t
  unfolding linked_end block_len
  block_end e = rw (num_bytes r t 24 8 8 (omega arith)) e

  pub block_pushed : {p q s : RangeTable} {x : ℕ} → true ≡ leads_to_block (length r) (make_link r t) → x ≡ linked_end r t
      → Pushes p ((t, t + 24) ∷ []) q → Pushes q ((t, x) ∷ []) s → Pushes p (target_cover r t) s
  unfolding block_cover
  block_pushed b e u v = rw (target_block b, ← e) (pushes_then u v)

-- the ranges of element i, read by g, behind those of the elements before it
pub turn : {A : Type 0} (f : A → List Range) (g : List ℕ → A) (xs : List (List ℕ)) (i : ℕ) (d : List ℕ) {p q s : RangeTable} → i < length xs
    → Pushes p (concat_map f (map g (take i xs))) q → Pushes q (f (g (get_or xs i d))) s → Pushes p (concat_map f (map g (take (i + 1) xs))) s
turn f g xs i d h u v = rw (map_more g xs i d h, concat_map_snoc f (map g (take i xs)) (g (get_or xs i d))) (pushes_then u v)

pub start : {A : Type 0} (f : A → List Range) (q : RangeTable) → Pushes q (concat_map f []) q
unfolding concat_map
start f q = pushes_none q

-- those of all rows and all links, in a table that had none
pub all_pushed : (r : List ℕ) (ws : List Row) (ls : List Link) {p q s : RangeTable} {t : List ℕ} → p.words.now ≡ t → p.count ≡ 0
    → Pushes p (concat_map (row_cover r) ws) q → Pushes q (concat_map (link_cover r) ls) s → Pushed t 0 (covers r ws ls) s.words.now s.count
unfolding covers
all_pushed r ws ls e z u v = rw (e, z) at (pushes_then u v).pushed
