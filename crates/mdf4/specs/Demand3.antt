-- Demand 3, and what document 02's orders add to it, as statements about what a call of an entry answers and leaves in the lent memory.
-- proofs/Demand3.antt and proofs/Finalized.antt prove them of each entry's definition.
use Rattle.std.specs.Prelude.{◌≡◌, true, false, not, ◌&&◌, List, [], ◌∷◌, map, ◌⊎◌, ℕ, zero, suc, ◌+◌, ◌-◌, ◌*◌, ◌≤◌, ◌<◌, length, get_or, take, drop}
use Rattle.mdf4.specs.Bytes.{num, Range, inside, bit, count, tally}
use Rattle.mdf4.specs.Act.{Refusal, refusal, Out, ok, err, State, elem}
use Rattle.mdf4.specs.Reads.{read_ranges, kept_ranges}
use Rattle.mdf4.specs.Layout.{Layout, walk_state}
use Rattle.mdf4.specs.Clear.{clr_bytes}
use Rattle.mdf4.specs.Walk.{header_at}
use Rattle.mdf4.specs.Answers.{Lent, Counts, Exit, limits, laid, block_row_words, pair_words}

-- the read bytes of a recording that is accepted with these lent lengths
unfoldable pub read_by : List ℕ → Out Layout → List Range
read_by r (ok y) = read_ranges r y.state
read_by r (err e) = []

unfoldable pub read : Lent → List ℕ → List Range
read n r = read_by r (laid n r)

-- its extents that are kept (document 02, order 1)
unfoldable pub kept_by : List ℕ → Out Layout → List Range
kept_by r (ok y) = kept_ranges r y.state
kept_by r (err e) = []

unfoldable pub kept : Lent → List ℕ → List Range
kept n r = kept_by r (laid n r)

-- two recordings of one length agree on the read bytes of the first
pub record Alike (n : Lent) (r r' : List ℕ) : Type 0 where
  pub size : length r ≡ length r'
  pub at : (i : ℕ) → i < length r → inside i (read n r) ≡ true → get_or r i 0 ≡ get_or r' i 0

-- Two recordings: where the first is accepted and they are alike, the second gets the same answer, and the same words and
-- bytes stand in all lent memory.
pub record Again (entry : Lent → List ℕ → Exit) : Type 0 where
  pub same : (n : Lent) (r r' : List ℕ) (c : Counts) → (entry n r).answer ≡ ok c → Alike n r r' → entry n r' ≡ entry n r

-- the ranges in the first two words of each of n rows of w words
unfoldable pub ranges_in : ℕ → ℕ → List ℕ → List Range
ranges_in w zero t = []
ranges_in w (suc n) t = (get_or t 0 0, get_or t 1 0) ∷ ranges_in w n (drop w t)

-- the extents and the gaps as they stand in the tables of an accepted call, and the listed offsets
unfoldable pub extents_in : Exit → Counts → List Range
extents_in e c = ranges_in block_row_words c.blocks e.blocks

unfoldable pub gaps_in : Exit → Counts → List Range
gaps_in e c = ranges_in pair_words c.gaps e.gaps

unfoldable pub offsets : List Range → List ℕ
offsets ps = map (λ (p : Range). p.0) ps

-- the targets of the links, the first word of each row of the link table
unfoldable pub targets_in : Exit → Counts → List ℕ
targets_in e c = offsets (ranges_in pair_words c.links e.links)

-- the sum of the ranges' sizes
unfoldable pub sizes : List Range → ℕ
sizes [] = 0
sizes (p ∷ ps) = (p.1 - p.0) + sizes ps

-- what a row of the block table tells of links (document 02, order 3): its offset, where its own stand in the link table, and which
-- one the walk followed when it listed the row: the block that it belongs to, and its position among those shown
pub record Origin : Type 0 where
  pub off : ℕ
  pub first_link : ℕ
  pub link_count : ℕ
  pub from_block : ℕ
  pub from_link : ℕ

unfoldable pub origins_of : ℕ → List ℕ → List Origin
origins_of zero t = []
origins_of (suc n) t =
    record { off = get_or t 0 0; first_link = get_or t 6 0; link_count = get_or t 7 0; from_block = get_or t 12 0; from_link = get_or t 13 0 }
    ∷ origins_of n (drop block_row_words t)

-- as they stand in the tables of an accepted call
unfoldable pub origins_in : Exit → Counts → List Origin
origins_in e c = origins_of c.blocks e.blocks

abbrev pub origin_at : List Origin → ℕ → Origin
origin_at os i = get_or os i (record { off = 0; first_link = 0; link_count = 0; from_block = 0; from_link = 0 })

-- row i was listed by following a link of row j: the link at its position among those that row j shows leads to it; ts are the targets of
-- the link table
pub record Led (os : List Origin) (ts : List ℕ) (i j : ℕ) : Type 0 where
  pub block : (origin_at os j).off ≡ (origin_at os i).from_block
  pub shown : (origin_at os i).from_link < (origin_at os j).link_count
  pub target : get_or ts ((origin_at os j).first_link + (origin_at os i).from_link) 0 ≡ (origin_at os i).off

-- k steps back from row i, each to a listed block that led there, stands the header
abbrev pub Back : List Origin → List ℕ → ℕ → ℕ → Type 0
Back os ts zero i = (origin_at os i).off ≡ header_at
Back os ts (suc k) i = (j : ℕ) × (j < length os) × Led os ts i j × Back os ts k j

-- Document 02, order 3: the ID and the header were listed by no link; from every row but the ID, fewer steps than there are rows lead
-- back to the header.
pub record Followed (os : List Origin) (ts : List ℕ) : Type 0 where
  pub none : (i : ℕ) → i < length os → ((origin_at os i).off ≡ 0) ⊎ ((origin_at os i).off ≡ header_at) → ((origin_at os i).from_block ≡ 0) × ((origin_at os i).from_link ≡ 0)
  pub back : (i : ℕ) → i < length os → ((origin_at os i).off ≡ 0 → ⊥) → (k : ℕ) × (k < length os) × Back os ts k i

-- document 01's gap: not empty, cut at each listed offset inside it, and no shorter: it ends at a listed offset or at the file's end
pub record Gap (len : ℕ) (offs : List ℕ) (g : Range) : Type 0 where
  pub some : g.0 < g.1
  pub cut : (j : ℕ) → g.0 < j → j < g.1 → elem j offs ≡ false
  pub ends : (g.1 ≡ len) ⊎ (elem g.1 offs ≡ true)

-- The tables of an accepted call: listed offsets strictly ascend; each byte lies in exactly one gap if no extent holds it, else in
-- none; each gap is one as document 01 has it; the gaps' sizes add up to the number of bytes that no extent holds; the links that were
-- followed lead back to the header.
pub record Tables (r : List ℕ) (e : Exit) (c : Counts) : Type 0 where
  pub ascend : (i j : ℕ) → i < j → j < c.blocks → (get_or (extents_in e c) i (0, 0)).0 < (get_or (extents_in e c) j (0, 0)).0
  pub partition : (i : ℕ) → i < length r → count i (gaps_in e c) ≡ bit (not (inside i (extents_in e c)))
  pub gap : (i : ℕ) → i < c.gaps → Gap (length r) (offsets (extents_in e c)) (get_or (gaps_in e c) i (0, 0))
  pub add_up : sizes (gaps_in e c) ≡ tally (λ i. bit (not (inside i (extents_in e c)))) (length r)
  pub followed : Followed (origins_in e c) (targets_in e c)

-- a path p to the block at a, with the rows os: it starts at the header and ends at a, each next word is a row's offset, and the row names
-- the word before it; it has no more words than there are rows
pub record Leads (os : List Origin) (p : List ℕ) (a : ℕ) : Type 0 where
  pub some : 0 < length p
  pub most : length p ≤ length os
  pub first : get_or p 0 0 ≡ header_at
  pub last : get_or p (length p - 1) 0 ≡ a
  pub step : (k : ℕ) → k + 1 < length p → (i : ℕ) × (i < length os) × ((origin_at os i).off ≡ get_or p (k + 1) 0) × ((origin_at os i).from_block ≡ get_or p k 0)

-- The output of an accepted path to the block at a: it leads from the header to a row with that offset; none for the ID and where no row
-- has it.
pub record Pathed (a : ℕ) (e : Exit) (c : Counts) : Type 0 where
  pub listed : (i : ℕ) → i < c.blocks → (origin_at (origins_in e c) i).off ≡ a → (a ≡ 0 → ⊥) → Leads (origins_in e c) (take c.bytes e.out) a
  pub unlisted : (a ≡ 0) ⊎ ((i : ℕ) → i < c.blocks → (origin_at (origins_in e c) i).off ≡ a → ⊥) → c.bytes ≡ 0

-- ranges that hold bytes, in order, with at least one byte between any two, the first not below lo
abbrev pub Apart : ℕ → List Range → Type 0
Apart lo [] = Unit {0}
Apart lo (p ∷ ps) = (lo ≤ p.0) × (p.0 < p.1) × Apart (suc p.1) ps

-- document 02's order 1, of the recording alone: a link's target that is not 0, with a mark that starts with ## and 24 bytes inside the
-- file
pub record Block (r : List ℕ) (t : ℕ) : Type 0 where
  pub some : t ≡ 0 → ⊥
  pub whole : t + 24 ≤ length r
  pub first : get_or r t 0 ≡ 0x23
  pub second : get_or r (t + 1) 0 ≡ 0x23

-- then these 24 bytes are read, and no byte of its extent is in a range
pub record Spared (n : Lent) (r : List ℕ) (ranges : List Range) (t : ℕ) : Type 0 where
  pub header : (i : ℕ) → t ≤ i → i < t + 24 → inside i (read n r) ≡ true
  pub extent : (i : ℕ) → t ≤ i → i < t + num r (t + 8) 8 → inside i ranges ≡ false

-- The output of an accepted clear list: the CLR bytes of ranges that hold exactly the bytes that lie in a gap and are neither read
-- nor kept; every block that a link leads to is spared; the recording is finalised (document 02, order 4): its bytes 60 to 63 are 0;
-- and no list of ranges that holds the same bytes is shorter.
pub record Cleared (n : Lent) (r : List ℕ) (e : Exit) (c : Counts) : Type 0 where
  pub ranges : List Range
  pub written : take c.bytes e.out ≡ clr_bytes (length r) ranges
  pub exact : (i : ℕ) → inside i ranges ≡ (inside i (gaps_in e c) && (not (inside i (read n r)) && not (inside i (kept n r))))
  pub spares : (j : ℕ) → j < c.links → Block r (get_or (targets_in e c) j 0) → Spared n r ranges (get_or (targets_in e c) j 0)
  pub finalized : (i : ℕ) → 60 ≤ i → i < 64 → get_or r i 0 ≡ 0
  pub apart : Apart 0 ranges
  pub fewest : (qs : List Range) → ((j : ℕ) → inside j ranges ≡ inside j qs) → length ranges ≤ length qs

-- document 02's order 4, of the recording alone: one of the bytes 60 to 63, the words of unfinalized flags, is not 0
pub record Unfinalized (r : List ℕ) : Type 0 where
  pub at : ℕ
  pub from : 60 ≤ at
  pub to : at < 64
  pub some : get_or r at 0 ≡ 0 → ⊥

-- What clear list, blanker and preview answer of it, whatever is lent: a refusal of the walk comes first; behind the walk it is 16 with the two words
-- where the recording is unfinalised, and 16 means that it is.
pub record Finalizing (n : Lent) (r : List ℕ) (a : Out Counts) : Type 0 where
  pub walk_first : (z : Refusal) → walk_state (limits n) r ≡ err z → a ≡ err z
  pub refused : (s : State) → walk_state (limits n) r ≡ ok s → Unfinalized r
      → a ≡ err (refusal 16 60 (get_or r 60 0 + 256 * get_or r 61 0) (get_or r 62 0 + 256 * get_or r 63 0))
  pub only : (z : Refusal) → a ≡ err z → z.number ≡ 16 → Unfinalized r

-- An entry that does not look never answers 16.
pub record Unasked (entry : Lent → List ℕ → Exit) : Type 0 where
  pub never_16 : (n : Lent) (r : List ℕ) (z : Refusal) → (entry n r).answer ≡ err z → z.number ≡ 16 → ⊥
