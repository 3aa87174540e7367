-- The loop over a chain against the definition's `chain`: what is left of the chain answers what the whole chain answers. A step is
-- any step that marks an offset where it answers a next address; it may take the fuel itself. Assumes nothing.
use mathlib.Core.Path.{◌≡◌, refl, sym, ap, ◌∙◌}
use mathlib.Core.Bool.{Bool, true, false, cond}
use mathlib.Core.List.{List}
use Prim.Native.Nat.{ℕ, ◌+◌, ◌-◌, ◌*◌, ◌≤◌, ◌<◌}
use native.Mathlib.Omega.{arith}
use lib.Dec.{eqb}
use lib.ListN.{length}
use lib.Seq.{length-take-le}
use borrow.Author.Tests.{ne_eqb, eqb-false}
use Rattle.std.specs.Prelude.{Ok, Err}
use Rattle.mdf4.specs.Act as spec
use Rattle.mdf4.specs.Act.{Refusal, Stop, ok, err, Act, reason, chain}
use Rattle.mdf4.proofs.Results.{never, reason_ok}
use Rattle.mdf4.proofs.Fuel.{Moves, turn_ok, turn_no, turn_end}
use Rattle.blocks.specs.Errors.{numbers}
use Rattle.blocks.specs.declared.error.MdfError.{MdfError}
use Rattle.walk_state.specs.declared.Walker.{Walker}
use Rattle.walk_state.specs.Within.{held}
use Rattle.walk_state.specs.Held.{holds, Keeps, Does}
use Rattle.walk_state.proofs.Steps.{keeps_same, keeps_then}

-- a step for each fuel: it takes an address and what the step before handed on, and answers the next address and what it hands on
abbrev pub Step : Type 0 → Type 0
Step B = ℕ → ℕ → B → Act (ℕ × B)

-- the chain from the address `at` on, with x handed on, answers what the chain from `first` on answers
pub record Going {B : Type 0} (f : Step B) (first : ℕ) (x0 : B) (w0 : Walker) (at : ℕ) (x : B) (w : Walker) : Type 0 where
  pub rest : (fuel : ℕ) → length w0.visited.now ≤ fuel
      → chain fuel (f fuel) first x0 w0.file.now (holds w0) ≡ chain fuel (f fuel) at x w0.file.now (holds w)
  pub keeps : Keeps w0 w

-- before the first step
pub going : {B : Type 0} (f : Step B) (first : ℕ) (x : B) (w : Walker) → Going f first x w first x w
going f first x w = record { rest = λ fuel g. refl; keeps = keeps_same }

-- the offsets held, and how many there may be
visited_held : (w : Walker) → length (holds w).visited ≡ w.walk.visited
unfolding held
visited_held w = length-take-le w.walk.visited w.visited.now w.within.visited.fits

lent_held : (w : Walker) → (holds w).lent.visited ≡ length w.visited.now
unfolding held
lent_held w = refl

pub same_file : {w w1 : Walker} → Keeps w w1 → w1.file.now ≡ w.file.now
same_file k = rw k.file

-- a step that refuses has a stopping block
stop_of : {A : Type 0} (z : spec.Result Stop A) (e : Refusal) → err e ≡ reason z → (s : Stop) × (z ≡ err s) × (s.why ≡ e)
unfolding reason
stop_of (ok p) e q = never (sym q)
stop_of (err s) e q = let d : s.why ≡ e = cc in (s, refl, d)

module _ {B : Type 0} {f : Step B} {first : ℕ} {x0 : B} {w0 : Walker} {at : ℕ} {x : B} {w : Walker} (mv : (fuel : ℕ) → Moves (f fuel))
    (g : Going f first x0 w0 at x w) (z : at ≡ 0 → ⊥) where
  room : length (holds w).visited ≤ (holds w).lent.visited
  room = omega (arith, visited_held w, lent_held w, w.within.visited.fits)

  big : (fuel : ℕ) → length w0.visited.now ≤ fuel → (holds w).lent.visited ≤ fuel
  big fuel h = omega (arith, lent_held w, g.keeps.visited_long)

  long : (fuel : ℕ) → length w0.visited.now ≤ fuel → length w.visited.now ≤ fuel
  long fuel h = omega (arith, g.keeps.visited_long)

  module _ {A : Type 0} {h : A → ℕ × B} {w1 : Walker} where
    module _ {a : A} (d : (fuel : ℕ) → length w.visited.now ≤ fuel → Does h w (Ok a) w1 (f fuel at x)) where
      went : (fuel : ℕ) → length w.visited.now ≤ fuel → f fuel at x w.file.now (holds w) ≡ ok (h a, holds w1)
      went fuel l = reason_ok (f fuel at x w.file.now (holds w)) (h a, holds w1) (sym (d fuel l).says)

      -- behind a step that goes on
      pub going_on : Going f first x0 w0 (h a).0 (h a).1 w1
      going_on = record {
        rest = λ fuel l.
            g.rest fuel l
            ∙ turn_ok (f fuel) (mv fuel) w0.file.now fuel at x (holds w) room (big fuel l) z (h a).0 (h a).1 (holds w1)
            (rw (← same_file g.keeps) (went fuel (long fuel l)));
        keeps = keeps_then g.keeps (d (length w.visited.now) (omega arith)).keeps;
      }

    -- a step that refuses
    pub going_off : {C : Type 0} {j : C → B} {e : MdfError} → ((fuel : ℕ) → length w.visited.now ≤ fuel → Does h w (Err e) w1 (f fuel at x))
        → (fuel : ℕ) → length w0.visited.now ≤ fuel → Does j w0 (Err e) w1 (chain fuel (f fuel) first x0)
    unfolding reason
    going_off {e = e} d fuel l =
        let k = d fuel (long fuel l) in
        let p = stop_of (f fuel at x w.file.now (holds w)) (numbers e) k.says in
        let t = ap (λ (y : List ℕ). f fuel at x y (holds w)) (sym (same_file g.keeps)) ∙ p.1 in
        let q = g.rest fuel l ∙ turn_no (f fuel) (mv fuel) w0.file.now fuel at x (holds w) room (big fuel l) z p.0 t in
        record { says = rw q (ap err (sym p.2)); keeps = keeps_then g.keeps k.keeps }

-- the end
pub gone : {B C : Type 0} {f : Step B} {first : ℕ} {x0 : B} {w0 : Walker} {at : ℕ} {x : B} {w : Walker} {j : C → B} {c : C} → Going f first x0 w0 at x w → at ≡ 0
    → j c ≡ x → (fuel : ℕ) → length w0.visited.now ≤ fuel → Does j w0 (Ok c) w (chain fuel (f fuel) first x0)
unfolding reason
gone {f = f} {w0 = w0} {x = x} {w = w} g z e fuel l = record {
  says =
      let q = g.rest fuel l in
      rw (e, q, z, turn_end (f fuel) w0.file.now fuel x (holds w));
  keeps = g.keeps;
}

-- 1 where there is an address to go to
abbrev pub more : ℕ → ℕ
more a = cond (eqb a 0) 0 1

more_le : (t : Bool) → cond t 0 1 ≤ 1
more_le true = omega arith
more_le false = omega arith

-- the loop's measure: whether there is an address to go to, and how many offsets may still be marked
unfoldable pub left : ℕ → Walker → ℕ
left at w = more at + 2 * (length w.visited.now - w.walk.visited)

-- it falls, since a step that answers a next address has marked an offset
pub left_falls : {A B : Type 0} {f : Step B} {at : ℕ} {x : B} {w : Walker} {h : A → ℕ × B} {a : A} {w1 : Walker}
    → ((fuel : ℕ) → Moves (f fuel)) → (at ≡ 0 → ⊥) → ((fuel : ℕ) → length w.visited.now ≤ fuel → Does h w (Ok a) w1 (f fuel at x)) → left (h a).0 w1 < left at w
unfolding left
left_falls {f = f} {at} {x} {w} {h} {a} {w1} mv z d = go (eqb (h a).0 0) refl
  where
    long : ℕ
    long = length w.visited.now

    one : more at ≡ 1
    one = rw (ne_eqb at 0 z)

    go : (t : Bool) → eqb (h a).0 0 ≡ t → more (h a).0 + 2 * (length w1.visited.now - w1.walk.visited) < more at + 2 * (length w.visited.now - w.walk.visited)
    go true e =
        let k = d long (omega arith) in
        let none : more (h a).0 ≡ 0 = rw e in
        omega (arith, one, none, k.keeps.grew, k.keeps.visited_long)
    go false e =
        let k = d long (omega arith) in
        let m = (mv long).moved at x w.file.now (holds w) (h a).0 (h a).1 (holds w1) (reason_ok _ _ (sym k.says)) (eqb-false (h a).0 0 e) in
        omega (arith, one, more_le (eqb (h a).0 0), visited_held w, visited_held w1, w1.within.visited.fits, k.keeps.visited_long)
