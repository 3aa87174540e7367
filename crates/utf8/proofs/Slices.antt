-- Laws of a part of a list that the loops over a text share.
use mathlib.Core.Path.{◌≡◌, refl, ap}
use mathlib.Core.List.{List, [], ◌∷◌, ◌++◌}
use Prim.Native.Nat.{ℕ, zero, suc, pred, ◌+◌, ◌-◌, ◌≤◌, ◌<◌}
use native.Mathlib.Nat.{zero-add, suc-add}
use native.Mathlib.Numerals.{add-one}
use native.Mathlib.Omega.{arith}
use lib.ListN.{length, get_or, take, drop, length-take, length-drop, drop_of_length-le}
use Rattle.utf8.specs.Parts.{IsPart}
use lib.Seq.{slice, take-nil, drop-nil, take-suc, drop-append-le, length-take-le}

pub slice_past : (s : List ℕ) (at end : ℕ) → end ≤ at → slice at end s ≡ []
slice_past s at end h = drop_of_length-le (take end s) {i = at} (simp length-take (omega arith))

pub drop_take : (a n : ℕ) (l : List ℕ) → drop a (take (a + n) l) ≡ take n (drop a l)
drop_take zero n l = rw zero-add
drop_take (suc a) n [] = rw (take-nil, drop-nil, take-nil)
drop_take (suc a) n (x ∷ l) = rw suc-add (drop_take a n l)

-- the front of the back of a text is a part of it
pub part_of : {t u r : List ℕ} → r ≡ take (length r) u → u ≡ drop (length t - length u) t → IsPart t r
part_of {t} {u} {r} f e =
    let a : length r ≤ length u = omega (arith, ap length f, length-take (length r) u) in
    let b : length u ≤ length t = omega (arith, ap length e, length-drop (length t - length u) t) in record {
      from = length t - length u;
      to = length t - length u + length r;
      order = omega arith;
      high = omega arith;
      is = rw (drop_take (length t - length u) (length r) t, ← e) f;
    }

-- one element more at a part's end
pub slice_snoc : (s : List ℕ) (at i : ℕ) → at ≤ i → i < length s → slice at (i + 1) s ≡ slice at i s ++ (get_or s i 0 ∷ [])
slice_snoc s at i h k =
    rw (add-one, take-suc s i 0 k) (drop-append-le at (take i s) (get_or s i 0 ∷ []) (rw (length-take-le i s (omega arith)) h))

-- the elements after the first n, where the first one is gone already
pub drop_pred : (n b : ℕ) (s : List ℕ) → 1 ≤ n → drop (pred n) s ≡ drop n (b ∷ s)
drop_pred zero b s h = absurd (omega arith)
drop_pred (suc n) b s h = refl
