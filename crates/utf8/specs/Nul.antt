-- NULs off the ends of some bytes. A NUL byte is always a character by itself, so it makes no difference whether they come
-- off before the text is decoded or after (proofs/Nul.antt). Assumes nothing.
use Rattle.std.specs.Prelude.{List, [], ◌∷◌, Bool, cond, ℕ, eqb}
use Rattle.utf8.specs.White.{drop_end}

unfoldable pub is_nul : ℕ → Bool
is_nul b = eqb b 0

-- off the start: `trim_start_matches('\0')`
unfoldable pub trim_start_nuls : List ℕ → List ℕ
trim_start_nuls [] = []
trim_start_nuls (b ∷ s) = cond (is_nul b) (trim_start_nuls s) (b ∷ s)

-- off the end: `trim_end_matches('\0')`
unfoldable pub trim_end_nuls : List ℕ → List ℕ
trim_end_nuls s = drop_end is_nul s

-- off both ends: `trim_matches('\0')`
unfoldable pub trim_nuls : List ℕ → List ℕ
trim_nuls s = trim_end_nuls (trim_start_nuls s)

-- what stands before the first NUL
unfoldable pub before_nul : List ℕ → List ℕ
before_nul [] = []
before_nul (b ∷ s) = cond (is_nul b) [] (b ∷ before_nul s)
