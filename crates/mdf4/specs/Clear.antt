-- The clear list: the longest runs of clear bytes, and its CLR bytes.
use Rattle.std.specs.Prelude.{Bool, true, false, not, ◌&&◌, List, [], ◌∷◌, ◌++◌, ℕ, zero, suc, ◌/◌, ◌%◌, length}
use Rattle.fmt.specs.Text.{ascii}
use Rattle.mdf4.specs.Bytes.{Range, inside, concat_map}
use Rattle.mdf4.specs.Reads.{spared_ranges}
use Rattle.mdf4.specs.Layout.{Layout}

-- a clear byte lies in a gap and is neither read nor kept (document 01, and order 1 of document 02)
unfoldable pub is_clear : List Range → List Range → ℕ → Bool
is_clear gaps spared i = inside i gaps && not (inside i spared)

-- the longest runs at which the test holds, over the n bytes from i on. Of an open run, `from` has its first byte.
pub data Run : Type 0 where
  none : Run
  from : ℕ → Run

unfoldable pub close : Run → ℕ → List Range
close none i = []
close (from a) i = (a, i) ∷ []

unfoldable pub open_at : Run → ℕ → Run
open_at none i = from i
open_at (from a) i = from a

unfoldable pub runs : (ℕ → Bool) → Run → ℕ → ℕ → List Range
runs f u i zero = close u i
runs f u i (suc n) = elim (f i) [ true ↦ runs f (open_at u i) (suc i) n | false ↦ close u i ++ runs f none (suc i) n ]

-- the clear ranges of an accepted recording
unfoldable pub clear_ranges : List ℕ → Layout → List Range
clear_ranges r y = runs (is_clear y.gaps (spared_ranges r y.state)) none 0 (length r)

-- the n little-endian bytes of a number
unfoldable pub le_bytes : ℕ → ℕ → List ℕ
le_bytes zero x = []
le_bytes (suc n) x = x % 256 ∷ le_bytes n (x / 256)

unfoldable pub range_bytes : Range → List ℕ
range_bytes g = le_bytes 8 g.0 ++ le_bytes 8 g.1

-- mark, version 1, three zeros, file length, number of ranges, the ranges
unfoldable pub clr_bytes : ℕ → List Range → List ℕ
clr_bytes len gs = ascii "CLR" ++ le_bytes 2 1 ++ 0 ∷ 0 ∷ 0 ∷ [] ++ le_bytes 8 len ++ le_bytes 8 (length gs) ++ concat_map range_bytes gs
