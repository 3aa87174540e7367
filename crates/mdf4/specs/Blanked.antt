-- Document 02's order 5 as statements about what calls of the entries answer and leave. proofs/Blanked.antt proves them of the
-- definition.
use Rattle.std.specs.Prelude.{◌≡◌, cond, not, ◌&&◌, List, [], map, ℕ, ◌+◌, ◌≤◌, ◌<◌, max, length, get_or, take, replicate}
use Rattle.mdf4.specs.Bytes.{num, Range, inside}
use Rattle.mdf4.specs.Act.{Refusal, Out, ok, err}
use Rattle.mdf4.specs.Clear.{clr_bytes}
use Rattle.mdf4.specs.Blank.{zeroed, changed}
use Rattle.mdf4.specs.Answers.{Lent, Counts, Exit, clear_list_exit, blank_exit, preview_exit, blank_recording}
use Rattle.mdf4.specs.Demand3.{read, kept, gaps_in, targets_in, Apart, Block}

-- An accepted blanking of r leaves r': the bytes that lie in a gap and are neither read nor kept are 0, and no other byte is changed. Of
-- order 1: the 24 bytes and the extent of every block that a link leads to stay as they were.
pub record Blanks (n : Lent) (r r' : List ℕ) (e : Exit) (c : Counts) : Type 0 where
  pub size : length r' ≡ length r
  pub byte : (i : ℕ) → get_or r' i 0 ≡ cond (inside i (gaps_in e c) && (not (inside i (read n r)) && not (inside i (kept n r)))) 0 (get_or r i 0)
  pub spares : (j : ℕ) → j < c.links → Block r (get_or (targets_in e c) j 0)
      → (i : ℕ) → get_or (targets_in e c) j 0 ≤ i → i < get_or (targets_in e c) j 0 + max 24 (num r (get_or (targets_in e c) j 0 + 8) 8)
      → get_or r' i 0 ≡ get_or r i 0

-- It zeroes the ranges of the clear list of the recording, whatever was lent for that list: no byte outside them moves.
pub record ByList : Type 0 where
  pub same : (n n' : Lent) (r : List ℕ) (c c' : Counts) → (blank_exit n r).answer ≡ ok c → (clear_list_exit n' r).answer ≡ ok c'
      → (ps : List Range) × (take c'.bytes (clear_list_exit n' r).out ≡ clr_bytes (length r) ps) × (blank_recording n r ≡ zeroed ps 0 r)

-- What an accepted blanking leaves in the recording does not depend on what was lent.
pub record AnyLent : Type 0 where
  pub same : (n n' : Lent) (r : List ℕ) (c c' : Counts) → (blank_exit n r).answer ≡ ok c → (blank_exit n' r).answer ≡ ok c' → blank_recording n' r ≡ blank_recording n r

-- A refused blanking leaves the recording as it was.
pub record Untouched : Type 0 where
  pub same : (n : Lent) (r : List ℕ) (z : Refusal) → (blank_exit n r).answer ≡ err z → blank_recording n r ≡ r

-- A second blanking, with whatever is lent, changes no byte.
pub record Once : Type 0 where
  pub same : (n : Lent) (r : List ℕ) (c : Counts) → (blank_exit n r).answer ≡ ok c → (n' : Lent) → blank_recording n' (blank_recording n r) ≡ blank_recording n r

-- After a blanking that was accepted with the lengths n, an entry answers and leaves with any lengths n' what it did before: the
-- same acceptance or the same refusal.
pub record After (entry : Lent → List ℕ → Exit) : Type 0 where
  pub same : (n : Lent) (r : List ℕ) (c : Counts) → (blank_exit n r).answer ≡ ok c → (n' : Lent) → entry n' (blank_recording n r) ≡ entry n' r

-- An accepted preview of r, where the blanker leaves r' of a copy: its ranges are those of the clear list; its counts, one for each, are
-- the numbers of bytes of the range at which the copy is changed, and their total that of the whole recording.
pub record Previews (n : Lent) (r r' : List ℕ) (e : Exit) (c : Counts) : Type 0 where
  pub ranges : List Range
  pub exact : (i : ℕ) → inside i ranges ≡ (inside i (gaps_in e c) && (not (inside i (read n r)) && not (inside i (kept n r))))
  pub apart : Apart 0 ranges
  pub count : take c.bytes e.out ≡ map (changed r r') ranges
  pub total : c.total ≡ changed r r' (0, length r)

-- Where a preview is accepted, so is the blanker with the same lengths.
pub record ShownFirst : Type 0 where
  pub accepts : (n : Lent) (r : List ℕ) (c : Counts) → (preview_exit n r).answer ≡ ok c → (c' : Counts) × ((blank_exit n r).answer ≡ ok c')

-- a preview but for what it counts: the answer without the total, and no counts
unfoldable pub untotalled : Out Counts → Out Counts
untotalled (ok c) = ok (record { visited = c.visited; blocks = c.blocks; links = c.links; gaps = c.gaps; bytes = c.bytes; total = 0 })
untotalled (err e) = err e

unfoldable pub uncounted : Exit → Exit
uncounted e = record {
  answer = untotalled e.answer;
  visited = e.visited;
  blocks = e.blocks;
  links = e.links;
  gaps = e.gaps;
  scratch = e.scratch;
  out = [];
}

unfoldable pub preview_uncounted : Lent → List ℕ → Exit
preview_uncounted n r = uncounted (preview_exit n r)

-- After a blanking the preview counts 0 throughout; `After preview_uncounted` says that it is otherwise what it was before.
pub record Idle : Type 0 where
  pub out : (n : Lent) (r : List ℕ) (c : Counts) → (blank_exit n r).answer ≡ ok c → (n' : Lent) → (preview_exit n' (blank_recording n r)).out ≡ replicate n'.out 0
  pub total : (n : Lent) (r : List ℕ) (c : Counts) → (blank_exit n r).answer ≡ ok c → (n' : Lent) (c' : Counts) → (preview_exit n' (blank_recording n r)).answer ≡ ok c' → c'.total ≡ 0
