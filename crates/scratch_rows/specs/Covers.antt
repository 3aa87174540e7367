-- What the scratch table takes up. A block's extent and its own bytes begin at one offset, so one range takes up both; so do the extent
-- and the header of a block that a link leads to.
use Rattle.std.specs.Prelude.{◌≡◌, List, [], ◌∷◌, ◌++◌, cond, ℕ, ◌+◌, min, max, length}
use Rattle.mdf4.specs.Bytes.{Range, bytes, concat_map}
use Rattle.mdf4.specs.Act.{ok, Kind, Row, Link}
use Rattle.mdf4.specs.Kinds.{block_len, read_len, read_block, make_link, name_head}
use Rattle.mdf4.specs.Reads.{leads_to_block, link_ranges, name_ranges, named_ranges, links_at}

-- the block of the kind k at the offset a can be read in the recording r
abbrev pub CanRead : Kind → List ℕ → ℕ → Type 0
CanRead k r a = read_block k r a ≡ ok (bytes r a (read_len k r a))

-- the channel name at the address t
unfoldable pub name_cover : List ℕ → ℕ → List Range
name_cover r t = name_ranges (length r) (make_link r t) (name_head r (make_link r t))

-- a listed block: its extent and own bytes, and its name
unfoldable pub cover : List ℕ → ℕ → ℕ → Kind → List Range
cover r off end k = (off, max end (off + read_len k r off)) ∷ named_ranges k r (links_at r k off)

unfoldable pub row_cover : List ℕ → Row → List Range
row_cover r w = cover r w.off w.end w.kind

-- the block at the offset t that a link leads to: its header, and the larger of header and extent
unfoldable pub linked_end : List ℕ → ℕ → ℕ
linked_end r t = max (t + 24) (min (t + block_len (bytes r t 24)) (length r))

unfoldable pub block_cover : List ℕ → ℕ → List Range
block_cover r t = (t, t + 24) ∷ (t, linked_end r t) ∷ []

-- a link: its block, or the four bytes at its target
unfoldable pub linked_cover : List ℕ → Link → List Range
linked_cover r l = cond (leads_to_block (length r) l) (block_cover r l.target) (link_ranges (length r) l)

unfoldable pub target_cover : List ℕ → ℕ → List Range
target_cover r t = linked_cover r (make_link r t)

unfoldable pub link_cover : List ℕ → Link → List Range
link_cover r l = target_cover r l.target

unfoldable pub covers : List ℕ → List Row → List Link → List Range
covers r ws ls = concat_map (row_cover r) ws ++ concat_map (link_cover r) ls
