-- What the printer of the tree needs of what it reads: of the recording r, the rows l of the link table, and n rows of the block table b.
use Rattle.std.specs.Prelude.{List, ℕ, ◌*◌, ◌≤◌, ◌<◌, length}
use Rattle.mdf4.specs.Answers.{block_row_words}
use Rattle.tables.specs.Laid.{RowOk}
use Rattle.tables.specs.Rows.{table, row_at}

-- the rows of the block table as arrays
abbrev pub rows_of : ℕ → List ℕ → List (List ℕ)
rows_of n b = table block_row_words (λ row. row) n b

-- each row is that of a block of the recording, and has its links in the link table
pub record Ready (r : List ℕ) (l : List (List ℕ)) (n : ℕ) (b : List ℕ) : Type 0 where
  pub rows_fit : n * block_row_words ≤ length b
  pub row : (i : ℕ) → i < n → RowOk r (length l) (row_at i b)
