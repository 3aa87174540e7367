-- Laws of byte ranges: agreement of two recordings on a range, and which bytes lists of ranges hold.
use mathlib.Core.Path.{◌≡◌, refl, sym}
use mathlib.Core.Bool.{Bool, true, false, not, ◌||◌, ◌&&◌, or_assoc, or-false}
use mathlib.Core.List.{List, [], ◌∷◌, ◌++◌}
use Prim.Native.Nat.{ℕ, ◌+◌, ◌-◌, ◌≤◌, ◌<◌, min}
use native.Mathlib.Omega.{arith}
use lib.ListN.{length, take, drop, get_or, length-take, length-drop}
use lib.Seq.{ext_get_or, get_or-take, get_or-drop}
use Rattle.mdf4.specs.Bytes.{bytes, Range, within, inside, concat_map}

-- Two recordings of one length that agree on the bytes a .. a + n give the same bytes there.
pub bytes_agree : (r r' : List ℕ) (a n : ℕ) → length r ≡ length r'
    → ((i : ℕ) → i < length r → a ≤ i → i < a + n → get_or r i 0 ≡ get_or r' i 0) → bytes r a n ≡ bytes r' a n
unfolding bytes
bytes_agree r r' a n e f =
    ext_get_or 0 (take n (drop a r)) (take n (drop a r')) (simp (length-take, length-drop, e)) at
  where
    at : (i : ℕ) → i < length (take n (drop a r)) → get_or (take n (drop a r)) i 0 ≡ get_or (take n (drop a r')) i 0
    at i h =
        let g : i < min n (length r - a) = rw (length-take, length-drop) at h in
        let u : i < n = omega arith in
        simp (get_or-take, get_or-drop) (f (a + i) (omega arith) (omega arith) (omega arith))

pub or_left : (a b : Bool) → a ≡ true → (a || b) ≡ true
or_left a b e = rw e

pub or_right : (a b : Bool) → b ≡ true → (a || b) ≡ true
or_right true b e = refl
or_right false b e = e

pub or_none : (a b : Bool) → (a || b) ≡ false → (a ≡ false) × (b ≡ false)
or_none true b e = let z : ◌≡◌ {A = ℕ} 0 1 = cc in absurd (omega arith)
or_none false b e = (refl, e)

pub not_or : (a b : Bool) → not (a || b) ≡ (not a && not b)
not_or true b = refl
not_or false b = refl

pub and_right : (a b : Bool) → (a && b) ≡ true → b ≡ true
and_right true b e = e
and_right false b e = let z : ◌≡◌ {A = ℕ} 0 1 = cc in absurd (omega arith)

pub inside_append : (i : ℕ) (ps qs : List Range) → inside i (ps ++ qs) ≡ (inside i ps || inside i qs)
unfolding inside
inside_append i [] qs = refl
inside_append i (p ∷ ps) qs = rw (inside_append i ps qs) (sym (or_assoc (within i p) (inside i ps) (inside i qs)))

pub concat_map_inside : {A : Type 0} (f : A → List Range) (xs ys : List A) (i : ℕ)
    → inside i (concat_map f (xs ++ ys)) ≡ (inside i (concat_map f xs) || inside i (concat_map f ys))
unfolding concat_map inside
concat_map_inside f [] ys i = refl
concat_map_inside f (x ∷ xs) ys i = simp (inside_append, concat_map_inside f xs ys i) (sym (or_assoc (inside i (f x)) _ _))

pub concat_map_one : {A : Type 0} (f : A → List Range) (x : A) (i : ℕ) → inside i (concat_map f (x ∷ [])) ≡ inside i (f x)
unfolding concat_map inside
concat_map_one f x i = simp (inside_append, or-false)
