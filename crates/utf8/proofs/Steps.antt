-- What stands at the front of a text: the width of a step, and the step by what the first byte asks, as the code's reads meet it.
use mathlib.Core.Path.{◌≡◌, refl}
use mathlib.Core.Bool.{Bool, true, false, cond}
use mathlib.Core.List.{List, [], ◌∷◌}
use Prim.Native.Nat.{ℕ, zero, suc, ◌+◌, ◌≤◌, ◌<◌}
use borrow.Author.Tests.{eq-eqb, ne_eqb}
use native.Mathlib.Omega.{arith}
use lib.Dec.{eqb}
use lib.ListN.{length, get_or, drop}
use lib.Seq.{drop-cons}
use Rattle.std.proofs.lemmas.List.{drop_all}
use Rattle.utf8.specs.Utf8.{between, trailing, ended, lead_of, after_lead, step_of, width_of}
use Rattle.utf8.specs.declared.Lead.{Lead}
use Rattle.utf8.specs.declared.Lead.TheVariants.{Ascii, Never, Second}
use Rattle.utf8.specs.declared.Step.TheVariants.{Char, Junk}

-- ---- widths

trailing_le : (m : ℕ) (s : List ℕ) → trailing m s ≤ length s
unfolding trailing
trailing_le zero s = omega arith
trailing_le (suc m) [] = omega arith
trailing_le (suc m) (b ∷ s) = go (between 0x80 0xbf b) (trailing_le m s)
  where
    go : (t : Bool) → trailing m s ≤ length s → cond t (suc (trailing m s)) 0 ≤ suc (length s)
    go true h = omega arith
    go false h = omega arith

pub ended_width : (m n : ℕ) → width_of (ended m n) ≡ 2 + n
unfolding ended
ended_width m n = go (eqb n m)
  where
    go : (t : Bool) → width_of (cond t (Char (2 + n)) (Junk (2 + n))) ≡ 2 + n
    go true = refl
    go false = refl

pub after_width : (l : Lead) (s : List ℕ) → (1 ≤ width_of (after_lead l s)) × (width_of (after_lead l s) ≤ suc (length s))
unfolding after_lead
after_width Ascii s = omega arith
after_width Never s = omega arith
after_width (Second lo hi m) [] = omega arith
after_width (Second lo hi m) (b ∷ s) = go (between lo hi b)
  where
    go : (t : Bool) → (1 ≤ width_of (cond t (ended m (trailing m s)) (Junk 1))) × (width_of (cond t (ended m (trailing m s)) (Junk 1)) ≤ suc (suc (length s)))
    go true = omega (arith, ended_width m (trailing m s), trailing_le m s)
    go false = omega arith

-- a step has at least one byte, and all of them are there
pub width_step : (l : List ℕ) → 0 < length l → (1 ≤ width_of (step_of l)) × (width_of (step_of l) ≤ length l)
unfolding step_of
width_step [] h = absurd (omega arith)
width_step (b ∷ s) h = after_width (lead_of b) s

-- ---- what the step is, by what the first byte asks

module _ (t : List ℕ) (h : 0 < length t) (r : Lead) (e : r ≡ lead_of (get_or t 0 0)) where
  step_lead : step_of t ≡ after_lead r (drop 1 t)
  unfolding step_of
  step_lead = go t h e
    where
      go : (t : List ℕ) → 0 < length t → r ≡ lead_of (get_or t 0 0) → step_of t ≡ after_lead r (drop 1 t)
      go [] h e = absurd (omega arith)
      go (b ∷ s) h e = rw (← e) refl

  pub step_ascii : r ≡ Ascii → Char 1 ≡ step_of t
  unfolding after_lead
  step_ascii q = rw (step_lead, q)

  pub step_never : r ≡ Never → Junk 1 ≡ step_of t
  unfolding after_lead
  step_never q = rw (step_lead, q)

  module _ {lo hi more : ℕ} (q : r ≡ Second lo hi more) where
    pub step_cut : length t < 2 → Junk 1 ≡ step_of t
    unfolding after_lead
    step_cut p = rw (step_lead, q, drop_all 1 t (omega arith))

    pub step_off : 2 ≤ length t → between lo hi (get_or t 1 0) ≡ false → Junk 1 ≡ step_of t
    unfolding after_lead
    step_off p w = rw (step_lead, q, drop-cons t 1 0 p, w)

    module _ (p : 2 ≤ length t) (w : between lo hi (get_or t 1 0) ≡ true) (n : ℕ) (z : n ≡ trailing more (drop 2 t)) where
      step_on : ended more n ≡ step_of t
      unfolding after_lead
      step_on = rw (step_lead, q, drop-cons t 1 0 p, w, z)

      pub step_whole : n ≡ more → Char (2 + n) ≡ step_of t
      unfolding ended
      step_whole y = rw (eq-eqb n more y) at step_on

      pub step_short : (n ≡ more → ⊥) → Junk (2 + n) ≡ step_of t
      unfolding ended
      step_short y = rw (ne_eqb n more y) at step_on
