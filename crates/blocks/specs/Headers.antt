-- A block's header, and the first refusals of every parser.
use Rattle.std.specs.Prelude.{List, ℕ, ◌+◌, min, leb, eqb, length}
use Rattle.mdf4.specs.Bytes.{bytes, num}
use Rattle.mdf4.specs.Act.{Out, ok, refusal, and_then, check}
use Rattle.mdf4.specs.Kinds.{block_len, links_nr, u64_max}
use Rattle.blocks.specs.declared.common.BlockHeader.{BlockHeader}

-- of the 24 bytes
unfoldable pub header_of : List ℕ → BlockHeader
header_of h = record { id = num h 0 4; block_len = block_len h; links_nr = links_nr h }

-- refusal 1 unless n bytes stand at a; then the header
unfoldable pub inside_or : List ℕ → ℕ → ℕ → Out BlockHeader
inside_or r a n = and_then (check (leb (a + n) (length r)) (refusal 1 a (min (a + n) u64_max) (length r))) (λ u. ok (header_of (bytes r a 24)))

-- and refusal 5 unless the mark is m
unfoldable pub marked_or : List ℕ → ℕ → ℕ → ℕ → Out BlockHeader
marked_or r a n m =
    and_then (inside_or r a n) (λ h. and_then (check (eqb h.id m) (refusal 5 a m h.id)) (λ u. ok h))
