-- What an answer says once its case is known.
use mathlib.Core.Path.{◌≡◌}
use Rattle.std.proofs.Common.{IsErrAnd, IfErr}
use Rattle.std.specs.Prelude.{Result, Ok, Err}
use Rattle.mdf4.specs.Act.{Refusal, Out, ok, err, and_then}
use Rattle.mdf4.proofs.Results.{never}
use Rattle.blocks.specs.declared.error.MdfError.{MdfError}
use Rattle.blocks.specs.Errors.{numbers, told, told_as}

-- what `?` hands on says the same refusal
pub told_on : {A : Type 0} (r : Result A MdfError) (e : MdfError) → IsErrAnd r (λ d. d ≡ e) → told r ≡ err (numbers e)
told_on (Err d) e h = rw h
told_on (Ok a) e h = absurd h

pub told_as_on : {A B : Type 0} (f : A → B) (r : Result A MdfError) (e : MdfError) → IsErrAnd r (λ d. d ≡ e) → told_as f r ≡ err (numbers e)
told_as_on f (Err d) e h = rw h
told_as_on f (Ok a) e h = absurd h

pub refused_on : {A : Type 0} (P : Refusal → Type 0) (r : Result A MdfError) (e : MdfError) → IsErrAnd r (λ d. d ≡ e) → P (numbers e) → IfErr r (λ d. P (numbers d))
refused_on P (Err d) e h p = rw h p
refused_on P (Ok a) e h p = absurd h

pub ok_is : {A : Type 0} {x y : A} → ◌≡◌ {A = Out A} (ok x) (ok y) → x ≡ y
ok_is e = cc

-- a refusal of two steps of which the second has none
pub ok_only : {A B : Type 0} (m : Out A) (f : A → B) (e : Refusal) → and_then m (λ a. ok (f a)) ≡ err e → m ≡ err e
unfolding and_then
ok_only (ok a) f e q = never q
ok_only (err d) f e q = let z : ◌≡◌ {A = Refusal} d e = cc in rw z
