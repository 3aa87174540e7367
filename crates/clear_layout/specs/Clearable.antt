-- The layout whose clear ranges the scratch table leaves, and the refusals on the way to it.
use Rattle.std.specs.Prelude.{◌≡◌, List, [], ℕ, Result, Ok, Err}
use Rattle.mdf4.specs.Act.{ok, err}
use Rattle.mdf4.specs.Layout.{Layout}
use Rattle.mdf4.specs.Answers.{Lent, clearable}
use Rattle.blocks.specs.Errors.{numbers}
use Rattle.file_layout.specs.Tables.{Filled}
use Rattle.file_layout.specs.declared.LentTables.{LentTables}
use Rattle.clear_ranges.specs.Spared.{Leaves}
use Rattle.clear_layout.specs.declared.Clearable.{Clearable}
use Rattle.blocks.specs.declared.error.MdfError.{MdfError}

-- the recording r has a layout with clear ranges: it stands in the tables t, and the scratch table s has rows that leave the ranges
pub record Stands (n : Lent) (r : List ℕ) (x : Clearable) (t : LentTables) (s : List ℕ) : Type 0 where
  pub layout : Layout
  pub is : clearable n r ≡ ok layout
  pub fills : Filled n layout [] x.rows t
  pub leaves : Leaves r layout x.scratch s

abbrev pub Says : Result Clearable MdfError → Lent → List ℕ → LentTables → List ℕ → Type 0
Says (Ok x) n r t s = Stands n r x t s
Says (Err e) n r t s = clearable n r ≡ err (numbers e)

pub record ClearableMet (n : Lent) (r : List ℕ) (x : Result Clearable MdfError) (t : LentTables) (s : List ℕ) : Type 0 where
  pub is : Says x n r t s
