-- Laws of zeroing ranges and of counting in them: for Blanked.antt, and for the code's loops.
use mathlib.Core.Path.{◌≡◌, refl, sym, ap, ◌∙◌}
use mathlib.Core.Bool.{Bool, true, false, cond, not, ◌||◌, ◌&&◌}
use mathlib.Core.List.{List, [], ◌∷◌, ◌++◌, map}
use Prim.Native.Nat.{ℕ, zero, suc, ◌+◌, ◌-◌, ◌≤◌, ◌<◌, min, max}
use native.Mathlib.Omega.{arith}
use native.Mathlib.Nat.{add-zero}
use lib.Dec.{leb, ltb, eqb}
use lib.ListN.{length, get_or, take, drop, replicate}
use borrow.Author.Tests.{ltb-true, ltb-false, leb-true, leb-false, lt-ltb, lt-leb, le-leb, eq-eqb}
use Rattle.mdf4.specs.Bytes.{Range, within, inside, bit, tally, sum}
use Rattle.mdf4.specs.Blank.{zeroed, nonzero, changed}
use Rattle.mdf4.specs.Demand3.{Apart}
use Rattle.mdf4.proofs.Bytes.{or_left, or_right}
use Rattle.mdf4.proofs.Lists.{All}
use Rattle.mdf4.proofs.Gaps.{tally_ext, tally_add, tally_none}
use Rattle.mdf4.proofs.Runs.{apart_below}

pub zeroed_length : (ps : List Range) (i : ℕ) (xs : List ℕ) → length xs ≡ length (zeroed ps i xs)
unfolding zeroed
zeroed_length ps i [] = refl
zeroed_length ps i (x ∷ xs) = ap suc (zeroed_length ps (suc i) xs)

cond_0 : (b : Bool) → ◌≡◌ {A = ℕ} 0 (cond b 0 0)
cond_0 true = refl
cond_0 false = refl

zeroed_from : (ps : List Range) (i : ℕ) (xs : List ℕ) (j : ℕ) → get_or (zeroed ps i xs) j 0 ≡ cond (inside (i + j) ps) 0 (get_or xs j 0)
unfolding zeroed
zeroed_from ps i [] j = cond_0 (inside (i + j) ps)
zeroed_from ps i (x ∷ xs) zero = rw add-zero
zeroed_from ps i (x ∷ xs) (suc j) = zeroed_from ps (suc i) xs j ∙ ap (λ (m : ℕ). cond (inside m ps) 0 (get_or xs j 0)) (omega arith)

-- each byte of the recording, zeroed or left
pub zeroed_at : (ps : List Range) (r : List ℕ) (i : ℕ) → get_or (zeroed ps 0 r) i 0 ≡ cond (inside i ps) 0 (get_or r i 0)
zeroed_at ps r i = zeroed_from ps 0 r i ∙ ap (λ (m : ℕ). cond (inside m ps) 0 (get_or r i 0)) (omega arith)

pub zeroed_twice : (ps : List Range) (i : ℕ) (xs : List ℕ) → zeroed ps i (zeroed ps i xs) ≡ zeroed ps i xs
unfolding zeroed
zeroed_twice ps i [] = refl
zeroed_twice ps i (x ∷ xs) = rw (zeroed_twice ps (suc i) xs, twice (inside i ps))
  where
    twice : (b : Bool) → cond b 0 (cond b 0 x) ≡ cond b 0 x
    twice true = refl
    twice false = refl

-- range by range, as a loop zeroes them
pub zeroed_none : (i : ℕ) (xs : List ℕ) → zeroed [] i xs ≡ xs
unfolding zeroed inside
zeroed_none i [] = refl
zeroed_none i (x ∷ xs) = ap (λ (ys : List ℕ). x ∷ ys) (zeroed_none (suc i) xs)

pub zeroed_cons : (p : Range) (ps : List Range) (i : ℕ) (xs : List ℕ) → zeroed (p ∷ ps) i xs ≡ zeroed ps i (zeroed (p ∷ []) i xs)
unfolding zeroed inside
zeroed_cons p ps i [] = refl
zeroed_cons p ps i (x ∷ xs) = rw (zeroed_cons p ps (suc i) xs, either (within i p) (inside i ps))
  where
    either : (a b : Bool) → cond (a || b) 0 x ≡ cond b 0 (cond (a || false) 0 x)
    either true b = cond_0 b
    either false b = refl

less : (a b : ℕ) → a ≤ b → a - b ≡ 0
less a b l = omega arith

-- one range: what stands before it, zeros, what stands behind it
zeroed_parts : (a b i : ℕ) (xs : List ℕ) → a ≤ b → b ≤ i + length xs → zeroed ((a, b) ∷ []) i xs ≡ take (a - i) xs ++ (replicate (b - max a i) 0 ++ drop (b - i) xs)
unfolding zeroed inside within
zeroed_parts a b i [] l h =
    rw (less a i (omega arith), less b (max a i) (omega arith), less b i (omega arith))
zeroed_parts a b i (x ∷ xs) l h = go (ltb i a) refl (ltb i b) refl (zeroed_parts a b (suc i) xs l (omega arith))
  where
    go : (t : Bool) → ltb i a ≡ t → (u : Bool) → ltb i b ≡ u
        → zeroed ((a, b) ∷ []) (suc i) xs ≡ take (a - suc i) xs ++ (replicate (b - max a (suc i)) 0 ++ drop (b - suc i) xs)
        → cond ((leb a i && ltb i b) || false) 0 x ∷ zeroed ((a, b) ∷ []) (suc i) xs ≡ take (a - i) (x ∷ xs) ++ (replicate (b - max a i) 0 ++ drop (b - i) (x ∷ xs))
    go true e u f ih =
        let m = ltb-true i a e in
        let p : a - i ≡ suc (a - suc i) = omega arith in
        let q : max a i ≡ max a (suc i) = omega arith in
        let s : b - i ≡ suc (b - suc i) = omega arith in
        rw (lt-leb a i m, p, q, s, ih)
    go false e true f ih =
        let m = ltb-false i a e in
        let n = ltb-true i b f in
        let q : b - max a i ≡ suc (b - max a (suc i)) = omega arith in
        let s : b - i ≡ suc (b - suc i) = omega arith in
        rw (le-leb a i m, f, less a i m, q, s, ih, less a (suc i) (omega arith))
    go false e false f ih =
        let n = ltb-false i b f in
        rw (le-leb a i (ltb-false i a e), f, less a i (omega arith), less b (max a i) (omega arith), less b i n, ih, less a (suc i) (omega arith), less b (max a (suc i)) (omega arith), less b (suc i) (omega arith))

pub zeroed_one : (a b : ℕ) (xs : List ℕ) → a ≤ b → b ≤ length xs → zeroed ((a, b) ∷ []) 0 xs ≡ take a xs ++ (replicate (b - a) 0 ++ drop b xs)
zeroed_one a b xs l h =
    let p : a - 0 ≡ a = omega arith in
    let q : max a 0 ≡ a = omega arith in
    let s : b - 0 ≡ b = omega arith in
    zeroed_parts a b 0 xs l (omega arith) ∙ rw (p, q, s)

-- byte by byte, as a loop counts them
pub nonzero_empty : (r : List ℕ) (a : ℕ) → nonzero r (a, a) ≡ 0
unfolding nonzero tally
nonzero_empty r a = let z : a - a ≡ 0 = omega arith in rw z

pub nonzero_step : (r : List ℕ) (a i : ℕ) → a ≤ i → nonzero r (a, suc i) ≡ nonzero r (a, i) + bit (not (eqb (get_or r i 0) 0))
unfolding nonzero tally
nonzero_step r a i l =
    let z : suc i - a ≡ suc (i - a) = omega arith in
    let w : a + (i - a) ≡ i = omega arith in
    rw (z, w)

tally_most : (f : ℕ → Bool) (n : ℕ) → tally (λ i. bit (f i)) n ≤ n
unfolding tally bit
tally_most f zero = omega arith
tally_most f (suc n) = go (f n) (tally_most f n)
  where
    go : (b : Bool) → tally (λ i. bit (f i)) n ≤ n → tally (λ i. bit (f i)) n + bit b ≤ suc n
    go true h = omega arith
    go false h = omega arith

pub nonzero_most : (r : List ℕ) (g : Range) → nonzero r g ≤ g.1 - g.0
unfolding nonzero
nonzero_most r g = tally_most (λ i. not (eqb (get_or r (g.0 + i) 0) 0)) (g.1 - g.0)

-- the bytes of a list's own ranges
abbrev pub Held : List Range → Range → Type 0
Held qs g = (i : ℕ) → g.0 ≤ i → i < g.1 → inside i qs ≡ true

pub all_held : (qs ps : List Range) → ((i : ℕ) → inside i ps ≡ true → inside i qs ≡ true) → All (Held qs) ps
unfolding inside within
all_held qs [] f = tt
all_held qs (p ∷ ps) f = (
  λ i m u. f i (or_left (within i p) _ (rw (le-leb p.0 i m, lt-ltb i p.1 u))),
  all_held qs ps (λ i h. f i (or_right (within i p) _ h)),
)

pub map_same : {A B : Type 0} (f g : A → B) (xs : List A) → All (λ x. f x ≡ g x) xs → map f xs ≡ map g xs
map_same f g [] a = refl
map_same f g (x ∷ xs) a = rw (a.0, map_same f g xs a.1)

-- what is zeroed counts 0, and what was not 0 there is what changes
module _ (ps : List Range) (r : List ℕ) (g : Range) (h : Held ps g) where
  is_0 : (i : ℕ) → i < g.1 - g.0 → get_or (zeroed ps 0 r) (g.0 + i) 0 ≡ 0
  is_0 i l = zeroed_at ps r (g.0 + i) ∙ rw (h (g.0 + i) (omega arith) (omega arith))

  pub nonzero_none : 0 ≡ nonzero (zeroed ps 0 r) g
  unfolding nonzero bit
  nonzero_none = sym (tally_ext _ (λ i. 0) (g.1 - g.0) (λ i l. rw (is_0 i l)) ∙ tally_none (g.1 - g.0))

  pub nonzero_changed : nonzero r g ≡ changed r (zeroed ps 0 r) g
  unfolding nonzero changed
  nonzero_changed = tally_ext _ _ (g.1 - g.0) (λ i l. rw (is_0 i l))

-- ranges that hold bytes below n end at n at the latest
pub ends_below : (n lo : ℕ) (ps : List Range) → Apart lo ps → ((i : ℕ) → inside i ps ≡ true → i < n) → All (λ g. g.1 ≤ n) ps
unfolding inside within
ends_below n lo [] a f = tt
ends_below n lo (p ∷ ps) a f =
    let h = f (p.1 - 1) (or_left (within (p.1 - 1) p) _ (rw (le-leb p.0 (p.1 - 1) (omega arith), lt-ltb (p.1 - 1) p.1 (omega arith)))) in
    (omega arith, ends_below n (suc p.1) ps a.2 (λ i q. f i (or_right (within i p) _ q)))

-- a sum over a range, as a sum over all numbers below n
module _ (f : ℕ → ℕ) where
  tally_window : (a b n : ℕ) → tally (λ i. cond (within i (a, b)) (f i) 0) n ≡ tally (λ j. f (a + j)) (min b n - a)
  unfolding tally within
  tally_window a b zero = let z : min b 0 - a ≡ 0 = omega arith in rw z
  tally_window a b (suc n) = rw (tally_window a b n) (go (leb a n) refl (ltb n b) refl)
    where
      go : (t : Bool) → leb a n ≡ t → (u : Bool) → ltb n b ≡ u → tally (λ j. f (a + j)) (min b n - a) + cond (t && u) (f n) 0 ≡ tally (λ j. f (a + j)) (min b (suc n) - a)
      go true p true q =
          let m = leb-true a n p in
          let u = ltb-true n b q in
          let y : min b n - a ≡ n - a = omega arith in
          let z : min b (suc n) - a ≡ suc (n - a) = omega arith in
          let w : a + (n - a) ≡ n = omega arith in
          rw (y, z, w)
      go true p false q =
          let u = ltb-false n b q in
          let z : min b (suc n) - a ≡ min b n - a = omega arith in
          rw (z, add-zero)
      go false p u q =
          let m = leb-false a n p in
          let z : min b (suc n) - a ≡ min b n - a = omega arith in
          rw (z, add-zero)

  split : (p : Range) (ps : List Range) → Apart (suc p.1) ps → (i : ℕ) → cond (inside i (p ∷ ps)) (f i) 0 ≡ cond (within i p) (f i) 0 + cond (inside i ps) (f i) 0
  unfolding inside within
  split p ps a i = go (leb p.0 i) (ltb i p.1) refl
    where
      go : (t u : Bool) → ltb i p.1 ≡ u → cond ((t && u) || inside i ps) (f i) 0 ≡ cond (t && u) (f i) 0 + cond (inside i ps) (f i) 0
      go true true q = rw (apart_below (suc p.1) i ps a (omega (arith, ltb-true i p.1 q)), add-zero)
      go true false q = omega arith
      go false u q = omega arith

  sum_tally : (n lo : ℕ) (ps : List Range) → Apart lo ps → All (λ g. g.1 ≤ n) ps
      → sum (map (λ g. tally (λ j. f (g.0 + j)) (g.1 - g.0)) ps) ≡ tally (λ i. cond (inside i ps) (f i) 0) n
  unfolding sum inside
  sum_tally n lo [] a e = sym (tally_none n)
  sum_tally n lo (p ∷ ps) a e =
      let z : min p.1 n - p.0 ≡ p.1 - p.0 = omega arith in
      let w : tally (λ i. cond (within i p) (f i) 0) n ≡ tally (λ j. f (p.0 + j)) (p.1 - p.0) = tally_window p.0 p.1 n ∙ ap (tally (λ j. f (p.0 + j))) z in
      let ih = sum_tally n (suc p.1) ps a.2 e.1 in
      let t : tally (λ i. cond (within i p || inside i ps) (f i) 0) n ≡ tally (λ i. cond (within i p) (f i) 0) n + tally (λ i. cond (inside i ps) (f i) 0) n
      = tally_ext _ (λ i. cond (within i p) (f i) 0 + cond (inside i ps) (f i) 0) n (λ i l. split p ps a.2 i) ∙ tally_add _ _ n in
      omega arith

-- so the counts of separate ranges add up to the bytes that zeroing them changes
pub sum_changed : (ps : List Range) (r : List ℕ) → Apart 0 ps → All (λ g. g.1 ≤ length r) ps → sum (map (nonzero r) ps) ≡ changed r (zeroed ps 0 r) (0, length r)
unfolding nonzero changed bit
sum_changed ps r a e =
    let w : length r - 0 ≡ length r = omega arith in
    let f : ℕ → ℕ = λ i. cond (inside i ps) (bit (not (eqb (get_or r i 0) 0))) 0 in
    sum_tally (λ i. bit (not (eqb (get_or r i 0) 0))) (length r) 0 ps a e ∙ sym (tally_ext _ f (length r - 0) at ∙ ap (tally f) w)
  where
    at : (i : ℕ) → i < length r - 0
        → bit (not (eqb (get_or r (0 + i) 0) (get_or (zeroed ps 0 r) (0 + i) 0))) ≡ cond (inside i ps) (bit (not (eqb (get_or r i 0) 0))) 0
    at i l = let z : 0 + i ≡ i = omega arith in rw (z, zeroed_at ps r i) (go (inside i ps))
      where
        go : (b : Bool) → bit (not (eqb (get_or r i 0) (cond b 0 (get_or r i 0)))) ≡ cond b (bit (not (eqb (get_or r i 0) 0))) 0
        go true = refl
        go false = rw (eq-eqb (get_or r i 0) (get_or r i 0) refl)
