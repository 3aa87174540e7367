-- What an accepted answer says of the steps behind it.
use mathlib.Core.Path.{◌≡◌, refl, sym, ap, ◌∙◌}
use mathlib.Core.Bool.{Bool, true, false}
use Prim.Native.Nat.{ℕ}
use native.Mathlib.Omega.{arith}
use Rattle.mdf4.specs.Act.{Result, ok, err, and_then, check, Stop, reason}

-- an acceptance is no refusal
pub never : {E A B : Type 0} {x : A} {z : E} → ◌≡◌ {A = Result E A} (ok x) (err z) → B
never p = let w : ◌≡◌ {A = ℕ} 0 1 = cc in absurd (omega arith)

pub and_then_ok : {E A B : Type 0} (m : Result E A) (f : A → Result E B) (b : B) → and_then m f ≡ ok b → (a : A) × (m ≡ ok a) × (f a ≡ ok b)
unfolding and_then
and_then_ok (ok a) f b e = (a, refl, e)
and_then_ok (err x) f b e = let z : ◌≡◌ {A = ℕ} 0 1 = cc in absurd (omega arith)

pub check_ok : {E B : Type 0} (t : Bool) (x : E) (f : Unit {0} → Result E B) (b : B) → and_then (check t x) f ≡ ok b → (t ≡ true) × (f tt ≡ ok b)
unfolding and_then check
check_ok true x f b e = (refl, e)
check_ok false x f b e = let z : ◌≡◌ {A = ℕ} 0 1 = cc in absurd (omega arith)

pub ok_both : {E A B : Type 0} (a a' : A) (b b' : B) → ◌≡◌ {A = Result E (A × B)} (ok (a, b)) (ok (a', b')) → (a ≡ a') × (b ≡ b')
ok_both {E = E} {A = A} {B = B} a a' b b' e = let q : ◌≡◌ {A = A × B} (a, b) (a', b') = cc in (ap (λ p. p.0) q, ap (λ p. p.1) q)

pub reason_ok : {A : Type 0} (m : Result Stop A) (x : A) → reason m ≡ ok x → m ≡ ok x
unfolding reason
reason_ok (ok y) x e = cc
reason_ok (err z) x e = let w : ◌≡◌ {A = ℕ} 0 1 = cc in absurd (omega arith)

-- two answers that are one: accepted with x, or one refusal
pub data Both {E A : Type 0} (o o' : Result E A) (x : A) : Type 0 where
  on : o ≡ ok x → o' ≡ ok x → Both o o' x
  off : (z : E) → o ≡ err z → o' ≡ err z → Both o o' x

pub both_then : {E A B : Type 0} {o o' : Result E A} {x : A} {y : B} (f f' : A → Result E B) → Both o o' x → Both (f x) (f' x) y → Both (and_then o f) (and_then o' f') y
unfolding and_then
both_then f f' (on p q) b = rw (p, q) b
both_then f f' (off z p q) b = off z (rw p) (rw q)

pub both_same : {E A : Type 0} {o o' : Result E A} {x : A} → Both o o' x → o ≡ o'
both_same (on p q) = p ∙ sym q
both_same (off z p q) = p ∙ sym q

-- where the first is accepted, so is the second
pub both_on : {E A : Type 0} {o o' : Result E A} {x : A} → Both o o' x → (y : A) → o ≡ ok y → (x ≡ y) × (o' ≡ ok x)
both_on (on p q) y e = ((cc), q)
both_on (off z p q) y e = never (sym e ∙ p)
