-- The ranges that rows of starts and ends leave in a file, one after the other.
use Rattle.std.specs.Prelude.{◌≡◌, true, List, [], ◌∷◌, ℕ, ◌<◌, Option, Some, None, drop, map}
use Rattle.mdf4.specs.Bytes.{Range, inside}
use Rattle.mdf4.specs.Layout.{compute_gaps}
use Rattle.mdf4.specs.Demand3.{Apart}
use Rattle.tables.specs.Gaps.{range_of}
use Rattle.clear_ranges.specs.declared.Found.{Found}

-- what the rows from row i on leave in a file of len bytes from the cursor on
abbrev pub left_from : ℕ → List (List ℕ) → ℕ → ℕ → List Range
left_from len rows i cursor = compute_gaps len cursor (map range_of (drop i rows))

-- the first range of these, and where the others are; or there is none
abbrev pub Leads : Option Found → ℕ → List (List ℕ) → ℕ → ℕ → Type 0
Leads (Some g) len rows i cursor = left_from len rows i cursor ≡ (g.start, g.end) ∷ left_from len rows g.row g.cursor
Leads None len rows i cursor = left_from len rows i cursor ≡ []

pub record NextMet (x : Option Found) (len : ℕ) (rows : List (List ℕ)) (i cursor : ℕ) : Type 0 where
  pub is : Leads x len rows i cursor

-- ranges in order, with bytes between any two, that hold bytes below len only
pub record Inner (len : ℕ) (ps : List Range) : Type 0 where
  pub apart : Apart 0 ps
  pub below : (i : ℕ) → inside i ps ≡ true → i < len
