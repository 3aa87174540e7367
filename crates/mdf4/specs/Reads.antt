-- Document 01's read bytes with document 02's order 1, of a recording and the state of its walk: ranges, one for each row, one for
-- each channel name that is read, one for each link with four bytes inside the file. Besides these the extents that order 1 keeps,
-- one for each link that leads to a block.
use Rattle.std.specs.Prelude.{Bool, cond, ◌&&◌, List, [], ◌∷◌, ◌++◌, map, ℕ, ◌+◌, ◌-◌, ◌*◌, ◌%◌, min, max, leb, eqb, length}
use Rattle.mdf4.specs.Bytes.{bytes, num, Range, concat_map}
use Rattle.mdf4.specs.Act.{Kind, ID, HD, DG, CG, CN, SI, TX, MD, DT, SD, DL, UT, UD, Row, Link, State}
use Rattle.mdf4.specs.Kinds.{shape, is, mark_of, block_len, read_len, make_link, name_link, name_is_text, name_head, name_len}

-- whether a link leads to a block, listed or not (document 02, order 1): the mark found starts with ##, and 24 bytes lie inside the
-- file
unfoldable pub leads_to_block : ℕ → Link → Bool
leads_to_block len l = eqb ((l.found - 1) % 65536) (mark_of "##") && leb (l.target + 24) len

-- what is read at the target: a block's 24 bytes, else four where they lie inside the file
unfoldable pub link_ranges : ℕ → Link → List Range
link_ranges len l =
    cond (leads_to_block len l) ((l.target, l.target + 24) ∷ []) (cond (eqb l.found 0) [] ((l.target, l.target + 4) ∷ []))

-- the extent of a linked block, target to target + block_len, cut at the file's end: it is not read but kept (document 02, order 1)
unfoldable pub link_extent : List ℕ → Link → List Range
link_extent r l =
    cond (leads_to_block (length r) l) ((l.target, min (l.target + block_len (bytes r l.target 24)) (length r)) ∷ []) []

-- the name's bytes, of its link and the header at its target
unfoldable pub name_ranges : ℕ → Link → List ℕ → List Range
name_ranges len l h = cond (name_is_text len l) ((l.target, l.target + name_len len l h) ∷ []) []

unfoldable pub named_ranges : Kind → List ℕ → List Link → List Range
named_ranges k r ls = cond (is k CN) (name_ranges (length r) (name_link ls) (name_head r (name_link ls))) []

-- the links of the block of kind k at the offset a
unfoldable pub links_at : List ℕ → Kind → ℕ → List Link
links_at r k a = map (make_link r) ((shape k).targets (bytes r a (read_len k r a)))

-- its own bytes, and its name's
unfoldable pub ranges_at : List ℕ → Kind → ℕ → List Range
ranges_at r k a = (a, a + read_len k r a) ∷ named_ranges k r (links_at r k a)

abbrev pub row_ranges : List ℕ → Row → List Range
row_ranges r w = ranges_at r w.kind w.off

unfoldable pub read_ranges : List ℕ → State → List Range
read_ranges r s = concat_map (row_ranges r) s.rows ++ concat_map (link_ranges (length r)) s.links

unfoldable pub kept_ranges : List ℕ → State → List Range
kept_ranges r s = concat_map (link_extent r) s.links

-- what is never clear: a scratch row for each of these ranges
unfoldable pub spared_ranges : List ℕ → State → List Range
spared_ranges r s = read_ranges r s ++ kept_ranges r s

-- Document 01's list of read bytes per block, as it stands there, over the recording itself. `read_len` is that list
-- (proofs/Fields.antt, `read_len_is`).
unfoldable pub listed_len : List ℕ → Kind → ℕ → ℕ
listed_len r ID a = 64
listed_len r HD a = 104
listed_len r DG a = 64
listed_len r CN a = 160
listed_len r CG a = 24 + 8 * num r (a + 16) 8 + 32
listed_len r SI a = 24 + 8 * num r (a + 16) 8 + 3
listed_len r DL a = 32 + 8 * num r (a + 16) 8
    + cond (eqb (num r (a + (24 + 8 * num r (a + 16) 8)) 1 % 2) 1) 8 (8 * num r (a + (28 + 8 * num r (a + 16) 8)) 4)
listed_len r TX a = max 24 (num r (a + 8) 8)
listed_len r MD a = max 24 (num r (a + 8) 8)
listed_len r DT a = 24
listed_len r SD a = 24
listed_len r UT a = 24
listed_len r UD a = 24
