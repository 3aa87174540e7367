-- The layout that the tables hold, for the functions behind the walk: the rows of words of the block table b, the link table l and the
-- gap table g.
use Rattle.std.specs.Prelude.{◌≡◌, List, [], ℕ, ◌+◌, ◌≤◌, ◌<◌, length, map, get_or}
use Rattle.mdf4.specs.Act.{Row}
use Rattle.mdf4.specs.Layout.{Layout}
use Rattle.mdf4.proofs.Good.{Readable}
use Rattle.tables.specs.Gaps.{range_of}
use Rattle.tables.specs.Rows.{row_of_words, link_of_words}

-- y is the layout that they hold
pub record Shows (y : Layout) (b l g : List (List ℕ)) : Type 0 where
  pub rows : y.blocks ≡ map row_of_words b
  pub links : y.state.links ≡ map link_of_words l
  pub gaps : y.gaps ≡ map range_of g

-- a row whose block can be read in the recording r, and whose links are among m
pub record RowOk (r : List ℕ) (m : ℕ) (w : Row) : Type 0 where
  pub readable : Readable r w
  pub links : w.first_link + w.link_count ≤ m

-- each row is that of a block of the recording r, and has its links in the link table
pub record Printable (r : List ℕ) (b l : List (List ℕ)) : Type 0 where
  pub row : (i : ℕ) → i < length b → RowOk r (length l) (row_of_words (get_or b i []))
