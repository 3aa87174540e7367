-- The words of a path, from the last on, and what a table holds of a path.
use Rattle.std.specs.Prelude.{◌≡◌, List, [], ◌∷◌, ◌++◌, ℕ, zero, suc, ◌≤◌, ◌<◌, length, drop}
use Rattle.mdf4.specs.Act.{Row}
use Rattle.mdf4.specs.Paths.{from_block_at}

-- the last `count` words of a path that ends at a
unfoldable pub last_words : ℕ → List Row → ℕ → List ℕ
last_words zero ws a = []
last_words (suc count) ws a = last_words count ws (from_block_at ws a) ++ a ∷ []

-- A function that answers `count` was to write the path p into the table t: `count` is how many words it has; where they fit they stand
-- in front, and the rest is as it was; a table that is too short is left as it was.
pub record Written (p t t' : List ℕ) (count : ℕ) : Type 0 where
  pub words : count ≡ length p
  pub fits : count ≤ length t → t' ≡ p ++ drop count t
  pub short : length t < count → t' ≡ t
