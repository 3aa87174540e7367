-- An accepted walk with other limits: another recording that agrees on what was read answers the same as the first, be it the same
-- state or the same refusal.
use mathlib.Core.Path.{◌≡◌, refl, sym, ap, ◌∙◌}
use mathlib.Core.List.{List}
use Prim.Native.Nat.{ℕ, ◌+◌}
use native.Mathlib.Omega.{arith}
use Rattle.mdf4.specs.Act.{ok, State, Limits}
use Rattle.mdf4.specs.Walk.{walk, start}
use Rattle.mdf4.specs.Reads.{read_ranges, kept_ranges, spared_ranges}
use Rattle.mdf4.specs.Layout.{layout_of, walk_state}
use Rattle.mdf4.specs.Clear.{clear_ranges}
use Rattle.mdf4.proofs.Results.{Both, both_same, both_on}
use Rattle.mdf4.proofs.Reading.{Agree, lending}
use Rattle.mdf4.proofs.Walk.{walk_good}
use Rattle.mdf4.proofs.Fuel.{walk_fuel}
use Rattle.mdf4.proofs.Laid.{state_walked}
use Rattle.mdf4.proofs.Texts.{Shared, shared}

-- limits are not read, and not cleared by
agree_lending : (lim : Limits) (r r' : List ℕ) (s : State) → Agree r r' s → Agree r r' (lending lim s)
unfolding lending read_ranges
agree_lending lim r r' s c = record { size = c.size; at = c.at }

pub clear_lending : (lim : Limits) (r : List ℕ) (s : State) → clear_ranges r (layout_of r (lending lim s)) ≡ clear_ranges r (layout_of r s)
unfolding lending clear_ranges layout_of spared_ranges read_ranges kept_ranges
clear_lending lim r s = refl

module _ (lim : Limits) (r r' : List ℕ) (s : State) (e : walk r (start lim) ≡ ok (tt, s)) (c : Agree r r' s) (lim' : Limits) where
  walk_other : Both (walk r (start lim')) (walk r' (start lim')) (tt, lending lim' s)
  unfolding lending start
  walk_other =
      let fuel = lim.visited + lim'.visited in
      rw (walk_fuel lim' r fuel (omega arith), walk_fuel lim' r' fuel (omega arith))
      (((walk_good fuel).went r (start lim) tt s (sym (walk_fuel lim r fuel (omega arith)) ∙ e)).other r' lim' c)

  pub state_other : walk_state lim' r' ≡ walk_state lim' r
  unfolding walk_state
  state_other = rw (both_same walk_other)

  -- where it is accepted, it ends in the same state but for the limits, and the two share there what an entry takes from them
  pub ends_in : (t : State) → walk_state lim' r ≡ ok t → lending lim' s ≡ t
  ends_in t q = ap (λ p. p.1) (both_on walk_other (tt, t) (state_walked lim' r t q)).0

  pub shared_other : (t : State) → walk_state lim' r ≡ ok t → Shared r r' t
  shared_other t q = shared lim' r r' t (state_walked lim' r t q) (rw (← ends_in t q) (agree_lending lim' r r' s c))
