-- Blanking: a recording with the bytes of some ranges zeroed, and how many bytes of a range that changes.
use Rattle.std.specs.Prelude.{cond, not, List, [], ◌∷◌, ℕ, suc, ◌+◌, ◌-◌, eqb, get_or}
use Rattle.mdf4.specs.Bytes.{Range, inside, bit, tally}

-- the bytes from the place i on, those in one of the ranges zeroed
unfoldable pub zeroed : List Range → ℕ → List ℕ → List ℕ
zeroed ps i [] = []
zeroed ps i (x ∷ xs) = cond (inside i ps) 0 x ∷ zeroed ps (suc i) xs

-- how many bytes of the range are not 0
unfoldable pub nonzero : List ℕ → Range → ℕ
nonzero r g = tally (λ i. bit (not (eqb (get_or r (g.0 + i) 0) 0))) (g.1 - g.0)

-- at how many bytes of the range two recordings differ
unfoldable pub changed : List ℕ → List ℕ → Range → ℕ
changed r r' g = tally (λ i. bit (not (eqb (get_or r (g.0 + i) 0) (get_or r' (g.0 + i) 0)))) (g.1 - g.0)
