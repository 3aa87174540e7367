-- Ranges written into a lent table of two words a row.
use Rattle.std.specs.Prelude.{◌≡◌, cond, List, [], ◌∷◌, ◌++◌, ℕ, ◌+◌, ◌-◌, ◌*◌, ◌/◌, ◌≤◌, ltb, length, drop, set, map, get_or}
use Rattle.std.specs.declared.ops.Range as ops
use Rattle.mdf4.specs.Bytes.{Range, concat_map}
use Rattle.mdf4.specs.Layout.{compute_gaps}
use Rattle.mdf4.specs.Answers.{range_words, pair_words}
use Rattle.tables.specs.declared.RangeTable.{RangeTable}
use Rattle.tables.specs.declared.Gaps.{Gaps}

-- a table, and the number of rows that were to be written into it so far
pub data Page : Type 0 where
  page : List ℕ → ℕ → Page

-- one row more: it is stored where a whole row is left, and it counts
unfoldable pub push : Page → Range → Page
push (page t c) p = cond (ltb c (length t / pair_words)) (page (set (set t (c * pair_words) p.0) (c * pair_words + 1) p.1) (c + 1)) (page t (c + 1))

unfoldable pub pushes : Page → List Range → Page
pushes q [] = q
pushes q (p ∷ ps) = pushes (push q p) ps

-- a function pushed the ranges ps on the table t with c rows
pub record Pushed (t : List ℕ) (c : ℕ) (ps : List Range) (t' : List ℕ) (c' : ℕ) : Type 0 where
  pub is : page t' c' ≡ pushes (page t c) ps

-- the table of the code: the same
pub record Pushes (p : RangeTable) (ps : List Range) (q : RangeTable) : Type 0 where
  pub same_reference : q.words.ghost_name ≡ p.words.ghost_name
  pub pushed : Pushed p.words.now p.count ps q.words.now q.count

-- a range of the code, and the range in the first two words of a row
abbrev pub bounds : ops.Range ℕ → Range
bounds g = (g.start, g.end)

abbrev pub range_of : List ℕ → Range
range_of w = (get_or w 0 0, get_or w 1 0)

-- the gaps that are still to come
abbrev pub gaps_left : {W : ℕ} → Gaps W → List Range
gaps_left g = compute_gaps g.len g.cursor (map range_of g.rows.now)

-- rows that are the last ones of all
pub record LastOf (all rows : List (List ℕ)) : Type 0 where
  pub are : rows ≡ drop (length all - length rows) all

-- A function that answers r was to write the ranges ps into the table t: r counts them; where they fit they stand in front, and
-- the rest is as it was. What stands in a table that is too short is left free.
pub record Listed (ps : List Range) (t t' : List ℕ) (r : ℕ) : Type 0 where
  pub count : r ≡ length ps
  pub long : length t' ≡ length t
  pub held : length ps ≤ length t / pair_words → t' ≡ concat_map range_words ps ++ drop (pair_words * length ps) t
