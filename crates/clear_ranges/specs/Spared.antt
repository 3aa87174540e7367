-- What stands in the scratch table: rows that leave the clear ranges of a layout, or too few for them.
use Rattle.std.specs.Prelude.{◌≡◌, List, ℕ, ◌*◌, ◌/◌, ◌≤◌, length, Result, Ok, Err}
use Rattle.mdf4.specs.Act.{Out, ok, err}
use Rattle.mdf4.specs.Reads.{spared_ranges}
use Rattle.mdf4.specs.Layout.{compute_gaps, Layout}
use Rattle.mdf4.specs.Clear.{clear_ranges}
use Rattle.mdf4.specs.Answers.{pair_words, room}
use Rattle.mdf4.specs.Demand3.{ranges_in}
use Rattle.blocks.specs.Errors.{numbers}
use Rattle.blocks.specs.declared.error.MdfError.{MdfError}

-- the first k rows of the scratch table s leave the clear ranges of the layout y, of the recording r
pub record Leaves (r : List ℕ) (y : Layout) (k : ℕ) (s : List ℕ) : Type 0 where
  pub fits : k * pair_words ≤ length s
  pub are : compute_gaps (length r) 0 (ranges_in pair_words k s) ≡ clear_ranges r y

-- a row for each range that is read or kept, in a table of `lent` words
abbrev pub spared_room : List ℕ → Layout → ℕ → Out (Unit {0})
spared_room r y lent = room (lent / pair_words) (length (spared_ranges r y.state))

abbrev pub Says : Result ℕ MdfError → List ℕ → Layout → ℕ → List ℕ → Type 0
Says (Ok k) r y lent s = (spared_room r y lent ≡ ok tt) × Leaves r y k s
Says (Err e) r y lent s = spared_room r y lent ≡ err (numbers e)

pub record SparedMet (x : Result ℕ MdfError) (r : List ℕ) (y : Layout) (lent : ℕ) (s : List ℕ) : Type 0 where
  pub says : Says x r y lent s
