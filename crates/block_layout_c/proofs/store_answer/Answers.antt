-- `store_answer` meets its contract: as many of the ten words as fit. Assumes nothing.
use mathlib.Core.Path.{◌≡◌, refl}
use Prim.Native.Nat.{ℕ}
use lib.ListN.{length}
use Rattle.mdf4.specs.Act.{Out, ok, err}
use Rattle.mdf4.specs.Answers.{Counts}
use Rattle.block_layout_c.specs.Words.{answer_words, stored}
use Rattle.block_layout_c.proofs.store_answer.Goals as goal

ten : (a : Out Counts) → length (answer_words a) ≡ 10
unfolding answer_words
ten (ok c) = refl
ten (err e) = refl

pub returns : goal.returns
unfolding stored
returns c = rw (ten, c.copy_from_slice.ensures.after, c.min-n.ensures, c.words_of.ensures)
