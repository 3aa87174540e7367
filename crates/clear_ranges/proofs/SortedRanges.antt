-- Ranges that have changed places hold the same bytes, and those that are sorted are in order.
use mathlib.Core.Path.{◌≡◌, refl, sym, ap, ap₂, ◌∙◌}
use mathlib.Core.Bool.{Bool, true, false, ◌||◌}
use mathlib.Core.List.{List}
use Prim.Native.Nat.{ℕ, zero, suc, ◌+◌, ◌*◌, ◌≤◌, ◌<◌}
use native.Mathlib.Omega.{arith}
use lib.ListN.{get_or, drop}
use lib.Seq.{get_or-drop, drop-drop}
use Rattle.mdf4.specs.Bytes.{Range, within, inside}
use Rattle.mdf4.specs.Demand3.{ranges_in}
use Rattle.mdf4.proofs.Bytes.{or_left, or_right}
use Rattle.mdf4.proofs.Lists.{All}
use Rattle.mdf4.proofs.Gaps.{Ordered}
use Rattle.tables.specs.Sort.{Moved, Sorted}
use Rattle.tables.proofs.Sorting.{Place, less, same, more, place, moved_key}
use Rattle.tables.proofs.Rows.{tab}

abbrev range_at : List ℕ → ℕ → Range
range_at t k = (get_or t (k * 2) 0, get_or t (k * 2 + 1) 0)

ranges_tab : (t : List ℕ) (i n : ℕ) → ranges_in 2 n (drop (i * 2) t) ≡ tab (range_at t) i n
unfolding ranges_in tab
ranges_tab t i zero = refl
ranges_tab t i (suc n) =
    let b : i * 2 + 0 ≡ i * 2 = omega arith in
    let d : i * 2 + 2 ≡ suc i * 2 = omega arith in
    rw (get_or-drop (i * 2) t 0 0, get_or-drop (i * 2) t 1 0, drop-drop, b, d, ranges_tab t (suc i) n)

ranges_are : (t : List ℕ) (n : ℕ) → ranges_in 2 n t ≡ tab (range_at t) 0 n
ranges_are t n = let b : 0 * 2 ≡ 0 = omega arith in rw b at (ranges_tab t 0 n)

-- ranges by their position
module _ (f : ℕ → Range) where
  in_tab : (j i n : ℕ) → inside j (tab f i n) ≡ true → (k : ℕ) × (i ≤ k) × (k < i + n) × (within j (f k) ≡ true)
  unfolding tab inside
  in_tab j i zero h = let z : ◌≡◌ {A = ℕ} 0 1 = cc in absurd (omega arith)
  in_tab j i (suc n) h = go (within j (f i)) refl h (in_tab j (suc i) n)
    where
      go : (b : Bool) → within j (f i) ≡ b → (b || inside j (tab f (suc i) n)) ≡ true
          → (inside j (tab f (suc i) n) ≡ true → (k : ℕ) × (suc i ≤ k) × (k < suc i + n) × (within j (f k) ≡ true))
          → (k : ℕ) × (i ≤ k) × (k < i + suc n) × (within j (f k) ≡ true)
      go true e q g = (i, omega arith, omega arith, e)
      go false e q g = let z = g q in (z.0, omega arith, omega arith, z.3)

  tab_in : (j i n k : ℕ) → i ≤ k → k < i + n → within j (f k) ≡ true → inside j (tab f i n) ≡ true
  unfolding tab inside
  tab_in j i zero k a b e = absurd (omega arith)
  tab_in j i (suc n) k a b e = go (place i k) (tab_in j (suc i) n k)
    where
      go : Place i k → (suc i ≤ k → k < suc i + n → within j (f k) ≡ true → inside j (tab f (suc i) n) ≡ true)
          → (within j (f i) || inside j (tab f (suc i) n)) ≡ true
      go (less z) g = absurd (omega arith)
      go (same z) g = or_left (within j (f i)) (inside j (tab f (suc i) n)) (rw (← z) e)
      go (more z) g = or_right (within j (f i)) _ (g (omega arith) (omega arith) e)

  all_tab : (P : Range → Type 0) (i n : ℕ) → ((k : ℕ) → i ≤ k → k < i + n → P (f k)) → All P (tab f i n)
  unfolding tab
  all_tab P i zero h = tt
  all_tab P i (suc n) h = (h i (omega arith) (omega arith), all_tab P (suc i) n (λ k a b. h k (omega arith) (omega arith)))

  tab_all : (P : Range → Type 0) (i n : ℕ) → All P (tab f i n) → (k : ℕ) → i ≤ k → k < i + n → P (f k)
  unfolding tab
  tab_all P i zero h k a b = absurd (omega arith)
  tab_all P i (suc n) h k a b = go (place i k) (tab_all P (suc i) n h.1 k)
    where
      go : Place i k → (suc i ≤ k → k < suc i + n → P (f k)) → P (f k)
      go (less z) g = absurd (omega arith)
      go (same z) g = rw z h.0
      go (more z) g = g (omega arith) (omega arith)

  ordered_tab : (lo i n : ℕ) → ((k : ℕ) → i ≤ k → k < i + n → lo ≤ (f k).0) → ((k l : ℕ) → i ≤ k → k ≤ l → l < i + n → (f k).0 ≤ (f l).0)
      → ((k : ℕ) → i ≤ k → k < i + n → (f k).0 ≤ (f k).1) → Ordered lo (tab f i n)
  unfolding tab
  ordered_tab lo i zero a b c = tt
  ordered_tab lo i (suc n) a b c = (
    a i (omega arith) (omega arith),
    c i (omega arith) (omega arith),
    ordered_tab (f i).0 (suc i) n (λ k p q. b i k (omega arith) (omega arith) (omega arith)) (λ k l p q s. b k l (omega arith) q (omega arith))
        (λ k p q. c k (omega arith) (omega arith)),
  )

both : (a b : Bool) → (a ≡ true → b ≡ true) → (b ≡ true → a ≡ true) → a ≡ b
both true b f g = sym (f refl)
both false true f g = g refl
both false false f g = refl

module _ (n : ℕ) (t u : List ℕ) (s : Sorted 2 n t u) where
  p : Moved 2 n t u
  p = s.moved

  same_range : (k : ℕ) → range_at u k ≡ range_at t (p.to k)
  unfolding p
  same_range k = ap₂ (λ (x y : ℕ). (x, y)) (moved_key 2 n t u (omega arith) s.moved k) (s.moved.words k 1 (omega arith))

  from_in : (k : ℕ) → k < n → p.from k < n
  from_in k h = go (place n (p.from k))
    where
      go : Place n (p.from k) → p.from k < n
      go (less z) = z
      go (same z) = absurd (omega (arith, p.out (p.from k) (omega arith), p.to_from k))
      go (more z) = absurd (omega (arith, p.out (p.from k) (omega arith), p.to_from k))

  pub sorted_inside : (j : ℕ) → inside j (ranges_in 2 n u) ≡ inside j (ranges_in 2 n t)
  sorted_inside j =
      rw (ranges_are u n, ranges_are t n) (both _ _ (λ h. forth (in_tab (range_at u) j 0 n h)) (λ h. back (in_tab (range_at t) j 0 n h)))
    where
      forth : (k : ℕ) × (0 ≤ k) × (k < 0 + n) × (within j (range_at u k) ≡ true) → inside j (tab (range_at t) 0 n) ≡ true
      forth z =
          let h : z.0 < n = omega arith in
          tab_in (range_at t) j 0 n (p.to z.0) (omega arith) (omega (arith, p.inn z.0 h)) (ap (within j) (sym (same_range z.0)) ∙ z.3)

      back : (k : ℕ) × (0 ≤ k) × (k < 0 + n) × (within j (range_at t k) ≡ true) → inside j (tab (range_at u) 0 n) ≡ true
      back z =
          let h : z.0 < n = omega arith in
          tab_in (range_at u) j 0 n (p.from z.0) (omega arith) (omega (arith, from_in z.0 h))
          (ap (within j) (same_range (p.from z.0) ∙ ap (range_at t) (p.to_from z.0)) ∙ z.3)

  pub sorted_all : (P : Range → Type 0) → All P (ranges_in 2 n t) → All P (ranges_in 2 n u)
  sorted_all P a =
      let b : All P (tab (range_at t) 0 n) = rw (ranges_are t n) at a in
      let old : (k : ℕ) → k < n → P (range_at t (p.to k)) = λ k y. tab_all (range_at t) P 0 n b (p.to k) (omega arith) (omega (arith, p.inn k y)) in
      rw (ranges_are u n) (all_tab (range_at u) P 0 n (λ k x y. rw (same_range k) (old k (omega arith))))

  pub sorted_ordered : All (λ q. q.0 < q.1) (ranges_in 2 n u) → Ordered 0 (ranges_in 2 n u)
  sorted_ordered a =
      let b : All (λ q. q.0 < q.1) (tab (range_at u) 0 n) = rw (ranges_are u n) at a in
      rw (ranges_are u n) (ordered_tab (range_at u) 0 0 n (λ k x y. omega arith) (λ k l x y z. s.ascends k l y (omega arith))
      (λ k x y. let h : (range_at u k).0 < (range_at u k).1 = tab_all (range_at u) (λ q. q.0 < q.1) 0 n b k x y in omega arith))
