-- The path to a listed block (document 02, order 3): from the header, along the links that the walk followed.
use Rattle.std.specs.Prelude.{Bool, cond, not, ◌||◌, List, [], ◌∷◌, ◌++◌, map, ℕ, zero, suc, eqb, length}
use Rattle.mdf4.specs.Act.{Row, elem}
use Rattle.mdf4.specs.Walk.{header_at}
use Rattle.mdf4.specs.Layout.{Layout}

-- the block whose link the walk followed to the block at a
unfoldable pub from_block_at : List Row → ℕ → ℕ
from_block_at [] a = 0
from_block_at (w ∷ ws) a = cond (eqb w.off a) w.from_block (from_block_at ws a)

-- from the header to the block at a, n links at most
unfoldable pub path_up : ℕ → List Row → ℕ → List ℕ
path_up zero ws a = a ∷ []
path_up (suc n) ws a = cond (eqb a header_at) (a ∷ []) (path_up n ws (from_block_at ws a) ++ a ∷ [])

unfoldable pub is_listed : List Row → ℕ → Bool
is_listed ws a = elem a (map (λ (w : Row). w.off) ws)

-- none for the ID and for what is not listed; no path has more links than there are blocks (proofs/Paths.antt)
unfoldable pub path : Layout → ℕ → List ℕ
path y a = cond (eqb a 0 || not (is_listed y.blocks a)) [] (path_up (length y.blocks) y.blocks a)
