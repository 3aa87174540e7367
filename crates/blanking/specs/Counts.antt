-- The counts of the bytes of ranges that are not 0.
use Rattle.std.specs.Prelude.{◌≡◌, List, ◌++◌, map, ℕ, length, drop}
use Rattle.mdf4.specs.Bytes.{Range, sum}
use Rattle.mdf4.specs.Blank.{nonzero}

-- of a table t a word for each range of ps has become its count in the recording r, and the total is the counts' sum
pub record Counted (r : List ℕ) (ps : List Range) (t t' : List ℕ) (total : ℕ) : Type 0 where
  pub counts : t' ≡ map (nonzero r) ps ++ drop (length ps) t
  pub sum_is : total ≡ sum (map (nonzero r) ps)
