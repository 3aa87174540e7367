-- Rows whose offsets ascend, and a binary search in them. Assumes nothing.
use Rattle.std.proofs.Common.{◌≡◌, sym, ap, ℕ, zero, suc, ◌<◌, ◌≤◌, List, [], ◌∷◌, length, map, get_or, Result, Ok, Err, ◌⊎◌, inl, inr, arith}
use Rattle.std.specs.List.Sorted.{IsSearchInRange, IsBinarySearchResult, IsNonDecreasingBy}
use Rattle.std.specs.Ordering.{nat_cmp, ordering_index}
use Rattle.std.specs.Result.{result_ok}
use Rattle.std.proofs.lemmas.Bool.{cases_lt}
use Rattle.std.proofs.lemmas.Cmp.{ranked}
use Rattle.std.proofs.lemmas.Bool.Decides.{nat_tests}
use Rattle.std.proofs.lemmas.List.{get_or-map, length-map}
use Rattle.std.proofs.lemmas.List.Sorted.{IsNonDecreasingBy-from_default}
use Rattle.mdf4.specs.Act.{Row}
use Rattle.mdf4.proofs.Order.{Above, Rising}
use Rattle.tables.specs.Rows.{row_of_words}
use Rattle.block_search.specs.Search.{Found}

above_at : (x : ℕ) (ws : List Row) (j : ℕ) (d : Row) → Above x ws → j < length ws → x < (get_or ws j d).off
above_at x [] j d a h = absurd (omega arith)
above_at x (w ∷ ws) zero d a h = a.0
above_at x (w ∷ ws) (suc j) d a h = above_at x ws j d a.1 (omega arith)

pub rising_less : (ws : List Row) (i j : ℕ) (d : Row) → Rising ws → i < j → j < length ws → (get_or ws i d).off < (get_or ws j d).off
rising_less [] i j d r h k = absurd (omega arith)
rising_less (w ∷ ws) i zero d r h k = absurd (omega arith)
rising_less (w ∷ ws) zero (suc j) d r h k = above_at w.off ws j d r.0 (omega arith)
rising_less (w ∷ ws) (suc i) (suc j) d r h k = rising_less ws i j d r.1 (omega arith) (omega arith)

-- what a binary search by offset answers
module _ (bs : List (List ℕ)) where
  -- offsets, as the code reads them
  abbrev off_at : ℕ → ℕ
  off_at i = get_or (get_or bs i []) 0 0

  pub row_off : (i : ℕ) (d : Row) → i < length bs → (get_or (map row_of_words bs) i d).off ≡ off_at i
  unfolding row_of_words
  row_off i d h = ap (λ (w : Row). w.off) (get_or-map row_of_words bs i [] d h)

  ascend : (i j : ℕ) → Rising (map row_of_words bs) → i < j → j < length bs → off_at i < off_at j
  ascend i j r h k =
      let d : Row = row_of_words [] in
      let l : j < length (map row_of_words bs) = omega (arith, length-map bs row_of_words) in
      omega (arith, rising_less (map row_of_words bs) i j d r h l, row_off i d (omega arith), row_off j d k)

  module _ (t : ℕ) where
    rises : Rising (map row_of_words bs) → IsNonDecreasingBy (λ w. ordering_index (nat_cmp (get_or w 0 0) t)) bs
    rises r = IsNonDecreasingBy-from_default (λ w. ordering_index (nat_cmp (get_or w 0 0) t)) bs [] (λ i j le l.
        let up : i < j → off_at i < off_at j = λ lt. ascend i j r lt l in
        let le' : off_at i ≤ off_at j = grind (arith, λ (e : i ≡ j). ap off_at e) in
        grind (arith, nat_tests))

    pub found : (r : Result ℕ ℕ) → IsSearchInRange r (length bs) → IsBinarySearchResult (λ w. nat_cmp (get_or w 0 0) t) bs r
        → Found bs t (result_ok r)
    unfolding row_of_words
    found (Ok i) h e = record { hit = (h, ranked _ t _ (sym (e []))); miss = tt }
    found (Err i) h e = record { hit = tt; miss = λ r j l at_j. apart r j l at_j (cases_lt j i) }
      where
        apart : Rising (map row_of_words bs) → (j : ℕ) → j < length bs → off_at j ≡ t → (j < i) ⊎ (i ≤ j) → ⊥
        apart r j l at_j (inl before) = let below : off_at j < t = ranked _ t _ (sym ((e (rises r)).0 j [] (omega arith) before)) in omega arith
        apart r j l at_j (inr after) = let above : t < off_at j = ranked _ t _ (sym ((e (rises r)).1 j [] after l)) in omega arith
