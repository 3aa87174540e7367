-- An answer as ten words, and words stored at the front of a lent table.
use Rattle.std.specs.Prelude.{List, [], ◌∷◌, ◌++◌, ℕ, min, length, take, drop}
use Rattle.mdf4.specs.Act.{Out, ok, err}
use Rattle.mdf4.specs.Answers.{Counts}

-- number (0 where it is accepted), place, a and b; then rows of the visited, block, link and gap tables, bytes of the output, words of
-- the path or number of the preview's counts, and the counts' total
unfoldable pub answer_words : Out Counts → List ℕ
answer_words (ok c) = 0 ∷ 0 ∷ 0 ∷ 0 ∷ c.visited ∷ c.blocks ∷ c.links ∷ c.gaps ∷ c.bytes ∷ c.total ∷ []
answer_words (err e) = e.number ∷ e.place ∷ e.a ∷ e.b ∷ 0 ∷ 0 ∷ 0 ∷ 0 ∷ 0 ∷ 0 ∷ []

-- the words ws at the front of the table t: those that fit, and the words behind them as they were
unfoldable pub stored : List ℕ → List ℕ → List ℕ
stored ws t = take (min (length ws) (length t)) ws ++ drop (min (length ws) (length t)) t
