-- NULs at a text's ends, and the bytes after a lead, by the front that passes a test, as the code's chains count it.
use mathlib.Core.Path.{◌≡◌, refl, ap, sym, ◌∙◌}
use mathlib.Core.Bool.{Bool, true, false, cond, not}
use mathlib.Core.List.{List, [], ◌∷◌, ◌++◌}
use Prim.Native.Nat.{ℕ, zero, suc, ◌-◌, ◌≤◌}
use native.Mathlib.Nat.{sub-zero}
use native.Mathlib.Numerals.{one-add}
use native.Mathlib.Omega.{arith}
use lib.Dec.{eqb, ltb}
use lib.Seq.{take-suc, take_all}
use borrow.Author.Tests.{ltb-false}
use lib.ListN.{length, take, drop, get_or}
use Rattle.std.proofs.Common.{Some, None}
use Rattle.std.specs.Option.{unwrap_or}
use Rattle.std.specs.List.{position, take_while, prefix_len, suffix_len, position_or_len}
use Rattle.std.proofs.lemmas.List.Sums.{prefix_len-le-length, suffix_len-take_yes, suffix_len-take_no}
use Rattle.utf8.specs.Utf8.{between, trailing}
use Rattle.utf8.specs.White.{keep, drop_end}
use Rattle.utf8.specs.Nul.{is_nul, trim_start_nuls, trim_end_nuls, before_nul}

pub trailing_counts : (more : ℕ) (s : List ℕ) → length (take_while (λ b. between 0x80 0xbf b) (take more s)) ≡ trailing more s
unfolding trailing
trailing_counts zero s = refl
trailing_counts (suc more) [] = refl
trailing_counts (suc more) (b ∷ s) = rw one-add (go (between 0x80 0xbf b) (trailing_counts more s))
  where
    go : (t : Bool) → length (take_while (λ b. between 0x80 0xbf b) (take more s)) ≡ trailing more s
        → length (take (cond t (suc (prefix_len (λ b. between 0x80 0xbf b) (take more s))) 0) (b ∷ take more s)) ≡ cond t (suc (trailing more s)) 0
    go true h = ap suc h
    go false h = refl

pub before_front : (s : List ℕ) → take (position_or_len (λ b. eqb b 0) s) s ≡ before_nul s
unfolding before_nul is_nul
before_front [] = refl
before_front (b ∷ s) = rw one-add (go (eqb b 0) (before_front s))
  where
    go : (t : Bool) → take (position_or_len (λ b. eqb b 0) s) s ≡ before_nul s
        → take (cond (not t) (suc (position_or_len (λ b. eqb b 0) s)) 0) (b ∷ s) ≡ cond t [] (b ∷ before_nul s)
    go true h = refl
    go false h = ap (λ (l : List ℕ). b ∷ l) h

pub start_back : (s : List ℕ) → drop (prefix_len (λ b. eqb b 0) s) s ≡ trim_start_nuls s
unfolding trim_start_nuls is_nul
start_back [] = refl
start_back (b ∷ s) = rw one-add (go (eqb b 0) (start_back s))
  where
    go : (t : Bool) → drop (prefix_len (λ b. eqb b 0) s) s ≡ trim_start_nuls s
        → drop (cond t (suc (prefix_len (λ b. eqb b 0) s)) 0) (b ∷ s) ≡ cond t (trim_start_nuls s) (b ∷ s)
    go true h = h
    go false h = refl

pub found_or_end : (p : ℕ → Bool) (s : List ℕ) → unwrap_or (position p s) (length s) ≡ position_or_len p s
found_or_end p s = go (ltb (position_or_len p s) (length s)) refl
  where
    go : (t : Bool) → ltb (position_or_len p s) (length s) ≡ t → unwrap_or (cond t (Some (position_or_len p s)) None) (length s) ≡ position_or_len p s
    go true e = refl
    go false e = omega (arith, ltb-false _ _ e, prefix_len-le-length (λ x. not (p x)) s)

-- ---- what passes a test off the end

module _ {A : Type 0} (p : A → Bool) where
  keep_snoc : (y x : A) (xs : List A) → keep p y (xs ++ (x ∷ [])) ≡ y ∷ (xs ++ (x ∷ []))
  unfolding keep
  keep_snoc y x [] = refl
  keep_snoc y x (z ∷ zs) = refl

  pub drop_end_pass : (xs : List A) (x : A) → p x ≡ true → drop_end p (xs ++ (x ∷ [])) ≡ drop_end p xs
  unfolding drop_end keep
  drop_end_pass [] x e = rw e
  drop_end_pass (y ∷ xs) x e = ap (keep p y) (drop_end_pass xs x e)

  pub drop_end_fail : (xs : List A) (x : A) → p x ≡ false → drop_end p (xs ++ (x ∷ [])) ≡ xs ++ (x ∷ [])
  unfolding drop_end keep
  drop_end_fail [] x e = rw e
  drop_end_fail (y ∷ xs) x e = ap (keep p y) (drop_end_fail xs x e) ∙ keep_snoc y x xs

  pub drop_end_none : drop_end p [] ≡ []
  unfolding drop_end
  drop_end_none = refl

end_front_to : (s : List ℕ) (n : ℕ) → n ≤ length s → take (n - suffix_len (λ b. eqb b 0) (take n s)) s ≡ trim_end_nuls (take n s)
unfolding trim_end_nuls is_nul
end_front_to s zero h = sym (drop_end_none (λ b. eqb b 0))
end_front_to s (suc n) h = go (eqb (get_or s n 0) 0) refl (end_front_to s n (omega arith))
  where
    snoc : take (suc n) s ≡ take n s ++ (get_or s n 0 ∷ [])
    snoc = take-suc s n 0 h

    go : (t : Bool) → eqb (get_or s n 0) 0 ≡ t → take (n - suffix_len (λ b. eqb b 0) (take n s)) s ≡ drop_end (λ b. eqb b 0) (take n s)
        → take (suc n - suffix_len (λ b. eqb b 0) (take (suc n) s)) s ≡ drop_end (λ b. eqb b 0) (take (suc n) s)
    go true e r =
        let i : suc n - 1 ≡ n = omega arith in
        let k = rw i at (suffix_len-take_yes (λ b. eqb b 0) s (suc n) 0 (omega arith) h (rw i e)) in
        let q : suc n - suffix_len (λ b. eqb b 0) (take (suc n) s) ≡ n - suffix_len (λ b. eqb b 0) (take n s) = omega arith in
        rw (q, snoc, drop_end_pass (λ b. eqb b 0) (take n s) (get_or s n 0) e) r
    go false e r =
        let i : suc n - 1 ≡ n = omega arith in
        let k = suffix_len-take_no (λ b. eqb b 0) s (suc n) 0 (omega arith) h (rw i e) in
        rw (k, sub-zero, snoc, drop_end_fail (λ b. eqb b 0) (take n s) (get_or s n 0) e)

pub end_front : (s : List ℕ) → take (length s - suffix_len (λ b. eqb b 0) s) s ≡ trim_end_nuls s
end_front s = rw (take_all (length s) s (omega arith)) at (end_front_to s (length s) (omega arith))
