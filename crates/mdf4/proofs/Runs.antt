-- Runs hold exactly the bytes at which the test holds, and no list of ranges that holds them is shorter; ranges with a byte
-- between any two are determined by the bytes that they hold.
use mathlib.Core.Path.{◌≡◌, refl, sym, ◌∙◌}
use mathlib.Core.Bool.{cond, Bool, true, false, ◌||◌, ◌&&◌, or_assoc, or-true, or-false, and-false}
use mathlib.Core.List.{List, [], ◌∷◌, ◌++◌, append-nil}
use Prim.Native.Nat.{ℕ, zero, suc, ◌+◌, ◌≤◌, ◌<◌}
use native.Mathlib.Omega.{arith}
use lib.Dec.{leb, ltb, eqb}
use lib.ListN.{length}
use borrow.Author.Tests.{ltb-true, ltb-false, lt-ltb, le-ltb, le-leb, lt-leb, ne_eqb, eq-eqb}
use Rattle.mdf4.specs.Bytes.{Range, within, inside}
use Rattle.mdf4.specs.Clear.{Run, none, from, close, open_at, runs}
use Rattle.mdf4.specs.Demand3.{Apart}
use Rattle.mdf4.proofs.Bytes.{inside_append, or_none}

-- an open run began before i
abbrev pub Began : Run → ℕ → Type 0
Began none i = Unit {0}
Began (from a) i = a < i

began_open : (u : Run) (i : ℕ) → Began u i → Began (open_at u i) (suc i)
unfolding open_at
began_open none i b = omega arith
began_open (from a) i b = omega arith

-- the three places of j about i
data Place (i j : ℕ) : Type 0 where
  less : j < i → Place i j
  same : i ≡ j → Place i j
  more : i < j → Place i j

place : (i j : ℕ) → Place i j
place i j = go (ltb j i) refl (ltb i j) refl
  where
    go : (t : Bool) → ltb j i ≡ t → (u : Bool) → ltb i j ≡ u → Place i j
    go true e u e2 = less (ltb-true j i e)
    go false e true e2 = more (ltb-true i j e2)
    go false e false e2 = same (omega (arith, ltb-false j i e, ltb-false i j e2))

open_close : (u : Run) (i j : ℕ) → Began u i → inside j (close (open_at u i) (suc i)) ≡ (inside j (close u i) || eqb i j)
unfolding open_at close inside within
open_close none i j b = go (place i j)
  where
    go : Place i j → (leb i j && ltb j (suc i) || false) ≡ eqb i j
    go (less h) = rw (lt-leb i j h, ne_eqb i j (λ e. omega arith))
    go (same h) = rw (le-leb i j (omega arith), lt-ltb j (suc i) (omega arith), eq-eqb i j h)
    go (more h) = rw (le-leb i j (omega arith), le-ltb j (suc i) (omega arith), ne_eqb i j (λ e. omega arith))
open_close (from a) i j b = go (place i j)
  where
    go : Place i j → (leb a j && ltb j (suc i) || false) ≡ ((leb a j && ltb j i || false) || eqb i j)
    go (less h) = rw (lt-ltb j (suc i) (omega arith), lt-ltb j i h, ne_eqb i j (λ e. omega arith)) (simp or-false)
    go (same h) = rw (le-leb a j (omega arith), lt-ltb j (suc i) (omega arith), eq-eqb i j h, or-true)
    go (more h) = rw (le-ltb j (suc i) (omega arith), le-ltb j i (omega arith), ne_eqb i j (λ e. omega arith)) (simp (and-false, or-false))

-- the bytes of the window i .. i + n at which f holds
unfoldable pub window : (ℕ → Bool) → ℕ → ℕ → ℕ → Bool
window f i n j = leb i j && (ltb j (i + n) && f j)

window_zero : (f : ℕ → Bool) (i j : ℕ) → window f i 0 j ≡ false
unfolding window
window_zero f i j = go (place i j)
  where
    go : Place i j → (leb i j && (ltb j (i + 0) && f j)) ≡ false
    go (less h) = rw (lt-leb i j h)
    go (same h) = rw (le-ltb j (i + 0) (omega arith)) (simp and-false)
    go (more h) = rw (le-ltb j (i + 0) (omega arith)) (simp and-false)

window_step : (f : ℕ → Bool) (i n j : ℕ) → f i ≡ true → (eqb i j || window f (suc i) n j) ≡ window f i (suc n) j
unfolding window
window_step f i n j e = go (place i j)
  where
    go : Place i j → (eqb i j || (leb (suc i) j && (ltb j (suc i + n) && f j))) ≡ (leb i j && (ltb j (i + suc n) && f j))
    go (less h) = rw (ne_eqb i j (λ e. omega arith), lt-leb (suc i) j (omega arith), lt-leb i j h)
    go (same h) = rw (← h, e, eq-eqb i i refl, le-leb i i (omega arith), lt-ltb i (i + suc n) (omega arith))
    go (more h) = rw (ne_eqb i j (λ e. omega arith), le-leb (suc i) j (omega arith), le-leb i j (omega arith), ends)
      where
        ends : suc i + n ≡ i + suc n
        ends = omega arith

window_skip : (f : ℕ → Bool) (i n j : ℕ) → f i ≡ false → window f (suc i) n j ≡ window f i (suc n) j
unfolding window
window_skip f i n j e = go (place i j)
  where
    go : Place i j → (leb (suc i) j && (ltb j (suc i + n) && f j)) ≡ (leb i j && (ltb j (i + suc n) && f j))
    go (less h) = rw (lt-leb (suc i) j (omega arith), lt-leb i j h)
    go (same h) = rw (← h, e, lt-leb (suc i) i (omega arith)) (simp and-false)
    go (more h) = let ends : suc i + n ≡ i + suc n = omega arith in rw (le-leb (suc i) j (omega arith), le-leb i j (omega arith), ends)

pub runs_inside : (f : ℕ → Bool) (u : Run) (i n j : ℕ) → Began u i → inside j (runs f u i n) ≡ (inside j (close u i) || window f i n j)
unfolding runs
runs_inside f u i zero j b = rw (window_zero f i j) (sym (or-false _))
runs_inside f u i (suc n) j b = go (f i) refl (runs_inside f (open_at u i) (suc i) n j (began_open u i b)) (runs_inside f none (suc i) n j tt)
  where
    go : (t : Bool) → f i ≡ t
        → inside j (runs f (open_at u i) (suc i) n) ≡ (inside j (close (open_at u i) (suc i)) || window f (suc i) n j)
        → inside j (runs f none (suc i) n) ≡ (inside j (close none (suc i)) || window f (suc i) n j)
        → inside j (elim t [ true ↦ runs f (open_at u i) (suc i) n | false ↦ close u i ++ runs f none (suc i) n ]) ≡ (inside j (close u i) || window f i (suc n) j)
    go true e x y = x ∙ rw (open_close u i j b, ← window_step f i n j e) (or_assoc (inside j (close u i)) (eqb i j) (window f (suc i) n j))
    go false e x y = rw (inside_append, y, window_skip f i n j e) (unfold close inside in refl)

-- an open run began at lo or behind it; where none is open, the next begins at i or behind
abbrev From : ℕ → Run → ℕ → Type 0
From lo none i = lo ≤ i
From lo (from a) i = (lo ≤ a) × (a < i)

from_open : (lo : ℕ) (u : Run) (i : ℕ) → From lo u i → From lo (open_at u i) (suc i)
unfolding open_at
from_open lo none i b = omega arith
from_open lo (from a) i b = omega arith

apart_close : (lo : ℕ) (u : Run) (i : ℕ) (ps : List Range) → From lo u i → Apart (suc i) ps → Apart lo (close u i ++ ps)
unfolding close
apart_close lo none i ps b p = lower ps p
  where
    lower : (ps : List Range) → Apart (suc i) ps → Apart lo ps
    lower [] p = tt
    lower (q ∷ qs) p = (omega arith, p.1, p.2)
apart_close lo (from a) i ps b p = (b.0, b.1, p)

pub runs_apart : (f : ℕ → Bool) (lo : ℕ) (u : Run) (i n : ℕ) → From lo u i → Apart lo (runs f u i n)
unfolding runs
runs_apart f lo u i zero b = rw append-nil at (apart_close lo u i [] b tt)
runs_apart f lo u i (suc n) b = go (f i) (runs_apart f lo (open_at u i) (suc i) n (from_open lo u i b)) (runs_apart f (suc i) none (suc i) n (omega arith))
  where
    go : (t : Bool) → Apart lo (runs f (open_at u i) (suc i) n) → Apart (suc i) (runs f none (suc i) n)
        → Apart lo (elim t [ true ↦ runs f (open_at u i) (suc i) n | false ↦ close u i ++ runs f none (suc i) n ])
    go true x y = x
    go false x y = apart_close lo u i (runs f none (suc i) n) b y

-- no list of ranges that holds the same bytes is shorter

-- the ranges that begin behind x
keep : ℕ → List Range → List Range
keep x [] = []
keep x (q ∷ qs) = cond (ltb x q.0) (q ∷ keep x qs) (keep x qs)

keep_length : (x : ℕ) (qs : List Range) → length (keep x qs) ≤ length qs
unfolding keep
keep_length x [] = omega arith
keep_length x (q ∷ qs) = go (ltb x q.0) (keep_length x qs)
  where
    go : (t : Bool) → length (keep x qs) ≤ length qs → length (cond t (q ∷ keep x qs) (keep x qs)) ≤ suc (length qs)
    go true h = omega arith
    go false h = omega arith

keep_below : (x j : ℕ) (qs : List Range) → j ≤ x → inside j (keep x qs) ≡ false
unfolding keep inside within
keep_below x j [] l = refl
keep_below x j (q ∷ qs) l = go (ltb x q.0) refl (keep_below x j qs l)
  where
    go : (t : Bool) → ltb x q.0 ≡ t → inside j (keep x qs) ≡ false → inside j (cond t (q ∷ keep x qs) (keep x qs)) ≡ false
    go true e h = rw (lt-leb q.0 j (omega (arith, ltb-true x q.0 e)), h)
    go false e h = h

keep_inside : (x j : ℕ) (qs : List Range) → x < j → inside x qs ≡ false → inside j (keep x qs) ≡ inside j qs
unfolding keep inside within
keep_inside x j [] l e = refl
keep_inside x j (q ∷ qs) l e =
    let z = or_none (within x q) (inside x qs) e in
    go (ltb x q.0) refl z.0 (keep_inside x j qs l z.1)
  where
    outside : (t : Bool) → leb q.0 x ≡ true → ltb x q.1 ≡ t → (leb q.0 x && ltb x q.1) ≡ false → q.1 ≤ x
    outside true a b c = let z : ◌≡◌ {A = ℕ} 0 1 = cc in absurd (omega arith)
    outside false a b c = ltb-false x q.1 b

    go : (t : Bool) → ltb x q.0 ≡ t → within x q ≡ false → inside j (keep x qs) ≡ inside j qs
        → inside j (cond t (q ∷ keep x qs) (keep x qs)) ≡ ((leb q.0 j && ltb j q.1) || inside j qs)
    go true e w h = rw h
    go false e w h =
        let m = outside (ltb x q.1) (le-leb q.0 x (ltb-false x q.0 e)) refl w in
        rw (le-ltb j q.1 (omega arith), and-false) h

keep_drops : (x j : ℕ) (qs : List Range) → j ≤ x → inside j qs ≡ true → length (keep x qs) < length qs
unfolding keep inside within
keep_drops x j [] l e = let z : ◌≡◌ {A = ℕ} 0 1 = cc in absurd (omega arith)
keep_drops x j (q ∷ qs) l e = go (ltb x q.0) refl e (keep_length x qs) (λ (h : inside j qs ≡ true). keep_drops x j qs l h)
  where
    go : (t : Bool) → ltb x q.0 ≡ t → ((leb q.0 j && ltb j q.1) || inside j qs) ≡ true → length (keep x qs) ≤ length qs
        → (inside j qs ≡ true → length (keep x qs) < length qs)
        → length (cond t (q ∷ keep x qs) (keep x qs)) < suc (length qs)
    go true a b c d = omega (arith, d (rw (lt-leb q.0 j (omega (arith, ltb-true x q.0 a))) at b))
    go false a b c d = omega arith

pub apart_below : (lo j : ℕ) (ps : List Range) → Apart lo ps → j < lo → inside j ps ≡ false
unfolding inside within
apart_below lo j [] a l = refl
apart_below lo j (p ∷ ps) a l = rw (lt-leb p.0 j (omega arith)) (apart_below (suc p.1) j ps a.2 (omega arith))

pub fewest : (lo : ℕ) (ps qs : List Range) → Apart lo ps → ((j : ℕ) → inside j ps ≡ inside j qs) → length ps ≤ length qs
unfolding inside within
fewest lo [] qs a e = omega arith
fewest lo (p ∷ ps) qs a e =
    omega (arith, fewest (suc p.1) ps (keep p.1 qs) a.2 (λ j. sub j (place p.1 j)), keep_drops p.1 p.0 qs (omega arith) first_in)
  where
    end_out : inside p.1 qs ≡ false
    end_out = sym (e p.1) ∙ rw (le-ltb p.1 p.1 (omega arith), and-false) (apart_below (suc p.1) p.1 ps a.2 (omega arith))

    first_in : inside p.0 qs ≡ true
    first_in = sym (e p.0) ∙ rw (le-leb p.0 p.0 (omega arith), lt-ltb p.0 p.1 a.1)

    sub : (j : ℕ) → Place p.1 j → inside j ps ≡ inside j (keep p.1 qs)
    sub j (less h) = apart_below (suc p.1) j ps a.2 (omega arith) ∙ sym (keep_below p.1 j qs (omega arith))
    sub j (same h) = apart_below (suc p.1) j ps a.2 (omega arith) ∙ sym (keep_below p.1 j qs (omega arith))
    sub j (more h) = rw (keep_inside p.1 j qs h end_out) (sym (rw (le-ltb j p.1 (omega arith), and-false)) ∙ e j)

-- the ranges are determined by the bytes that they hold: whatever makes such a list makes this one
inside_first : (lo : ℕ) (p : Range) (ps : List Range) → Apart lo (p ∷ ps) → inside p.0 (p ∷ ps) ≡ true
unfolding inside within
inside_first lo p ps a = rw (le-leb p.0 p.0 (omega arith), lt-ltb p.0 p.1 a.1)

inside_end : (lo : ℕ) (p : Range) (ps : List Range) → Apart lo (p ∷ ps) → inside p.1 (p ∷ ps) ≡ false
unfolding inside within
inside_end lo p ps a = rw (le-ltb p.1 p.1 (omega arith), and-false) (apart_below (suc p.1) p.1 ps a.2 (omega arith))

inside_tail : (j : ℕ) (p : Range) (ps : List Range) → p.1 ≤ j → inside j (p ∷ ps) ≡ inside j ps
unfolding inside within
inside_tail j p ps h = rw (le-ltb j p.1 h, and-false)

clash : {A : Type 0} (t u : Bool) → t ≡ u → t ≡ true → u ≡ false → A
clash t u e p q = let z : ◌≡◌ {A = ℕ} 0 1 = cc in absurd (omega arith)

module _ (lo : ℕ) (p q : Range) (ps qs : List Range) (a : Apart lo (p ∷ ps)) (b : Apart lo (q ∷ qs)) (e : (j : ℕ) → inside j (p ∷ ps) ≡ inside j (q ∷ qs)) where
  starts : (t : Bool) → ltb p.0 q.0 ≡ t → q.0 ≤ p.0
  starts true h = clash (inside p.0 (p ∷ ps)) (inside p.0 (q ∷ qs)) (e p.0) (inside_first lo p ps a)
      (apart_below q.0 p.0 (q ∷ qs) (omega arith, b.1, b.2) (ltb-true p.0 q.0 h))
  starts false h = ltb-false p.0 q.0 h

  ends : q.0 ≤ p.0 → (t : Bool) → ltb p.1 q.1 ≡ t → q.1 ≤ p.1
  unfolding inside within
  ends z true h = clash (inside p.1 (q ∷ qs)) (inside p.1 (p ∷ ps)) (sym (e p.1))
      (rw (le-leb q.0 p.1 (omega (arith, a.1)), h)) (inside_end lo p ps a)
  ends z false h = ltb-false p.1 q.1 h

pub apart_unique : (lo : ℕ) (ps qs : List Range) → Apart lo ps → Apart lo qs → ((j : ℕ) → inside j ps ≡ inside j qs) → ps ≡ qs
apart_unique lo [] [] a b e = refl
apart_unique lo [] (q ∷ qs) a b e = clash (inside q.0 (q ∷ qs)) (inside q.0 []) (sym (e q.0)) (inside_first lo q qs b) (unfold inside in refl)
apart_unique lo (p ∷ ps) [] a b e = clash (inside p.0 (p ∷ ps)) (inside p.0 []) (e p.0) (inside_first lo p ps a) (unfold inside in refl)
apart_unique lo (p ∷ ps) (q ∷ qs) a b e =
    let s1 = starts lo p q ps qs a b e (ltb p.0 q.0) refl in
    let s2 = starts lo q p qs ps b a (λ j. sym (e j)) (ltb q.0 p.0) refl in
    let e1 = ends lo p q ps qs a b e s1 (ltb p.1 q.1) refl in
    let e2 = ends lo q p qs ps b a (λ j. sym (e j)) s2 (ltb q.1 p.1) refl in
    let z0 : p.0 ≡ q.0 = omega arith in
    let z1 : p.1 ≡ q.1 = omega arith in
    let z : p ≡ q = λ i. (z0 i, z1 i) in
    rw (z, apart_unique (suc p.1) ps qs a.2 (rw z1 b.2) (λ j. tail z1 j (place p.1 j)))
  where
    both : (j : ℕ) → p.1 ≡ q.1 → p.1 ≤ j → inside j ps ≡ inside j qs
    both j z h = sym (inside_tail j p ps h) ∙ e j ∙ inside_tail j q qs (omega arith)

    tail : p.1 ≡ q.1 → (j : ℕ) → Place p.1 j → inside j ps ≡ inside j qs
    tail z j (less h) = apart_below (suc p.1) j ps a.2 (omega arith) ∙ sym (apart_below (suc q.1) j qs b.2 (omega arith))
    tail z j (same h) = both j z (omega arith)
    tail z j (more h) = both j z (omega arith)
