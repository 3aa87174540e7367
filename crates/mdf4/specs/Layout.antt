-- The layout: the walk, the rows by offset and the gaps between them, as `FileLayout::from_bytes` makes them; refusal 13 of the gap
-- table; and what an entry may ask between the walk and the gaps: refusal 16.
use Rattle.std.specs.Prelude.{cond, ◌&&◌, List, [], ◌∷◌, ◌++◌, map, ℕ, max, leb, ltb, eqb, length}
use Rattle.mdf4.specs.Bytes.{num, Range}
use Rattle.mdf4.specs.Act.{refusal, Out, ok, and_then, check, Row, State, Limits, reason}
use Rattle.mdf4.specs.Walk.{walk, start}

-- a stable sort by offset
unfoldable pub insert : Row → List Row → List Row
insert w [] = w ∷ []
insert w (v ∷ vs) = cond (leb w.off v.off) (w ∷ v ∷ vs) (v ∷ insert w vs)

unfoldable pub sort : List Row → List Row
sort [] = []
sort (w ∷ ws) = insert w (sort ws)

-- a block's extent: from its offset up to, not including, its end
abbrev pub extent : Row → Range
extent w = (w.off, w.end)

-- `compute_gaps`: from the cursor to the next offset, the cursor at the largest end so far; at last to the file's end
unfoldable pub gap : ℕ → ℕ → List Range
gap a b = cond (ltb a b) ((a, b) ∷ []) []

unfoldable pub compute_gaps : ℕ → ℕ → List Range → List Range
compute_gaps len cursor [] = gap cursor len
compute_gaps len cursor (p ∷ ps) = gap cursor p.0 ++ compute_gaps len (max cursor p.1) ps

-- the state behind the layout, its rows by offset, its gaps
pub record Layout : Type 0 where
  pub state : State
  pub blocks : List Row
  pub gaps : List Range

unfoldable pub layout_of : List ℕ → State → Layout
layout_of r s = record { state = s; blocks = sort s.rows; gaps = compute_gaps (length r) 0 (map extent (sort s.rows)) }

-- the state in which the walk ends: refusals 1 to 12, and 15 of a data list
unfoldable pub walk_state : Limits → List ℕ → Out State
walk_state lim r = and_then (reason (walk r (start lim))) (λ p. ok p.1)

-- the layout, where the gap table takes its gaps: refusal 13, of the whole rows lent
unfoldable pub gaps_fitted : ℕ → Layout → Out Layout
gaps_fitted lent y = and_then (check (leb (length y.gaps) lent) (refusal 13 0 lent (length y.gaps))) (λ u. ok y)

-- the walk, what an entry asks of the recording besides, then the gaps
unfoldable pub layout_if : Out (Unit {0}) → Limits → ℕ → List ℕ → Out Layout
layout_if asked lim lent r = and_then (walk_state lim r) (λ s. and_then asked (λ u. gaps_fitted lent (layout_of r s)))

-- an entry that asks nothing
unfoldable pub layout : Limits → ℕ → List ℕ → Out Layout
layout lim lent r = layout_if (ok tt) lim lent r

-- what an entry asks that takes finalised recordings only (document 02, order 4): the identification's two words of unfinalized flags
-- are 0
unfoldable pub finalized : List ℕ → Out (Unit {0})
finalized r = check (eqb (num r 60 2) 0 && eqb (num r 62 2) 0) (refusal 16 60 (num r 60 2) (num r 62 2))
