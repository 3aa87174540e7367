-- `words_of` meets its contract. Assumes nothing.
use mathlib.Core.Path.{ap}
use Rattle.mdf4.specs.Act.{Refusal, err}
use Rattle.block_layout_c.specs.Words.{answer_words}
use Rattle.block_layout_c.proofs.words_of.Goals as goal

pub returns-in-Ok : goal.returns-in-Ok
unfolding answer_words
returns-in-Ok c = rw c.in-Ok.is

pub returns-in-Err : goal.returns-in-Err
unfolding answer_words
returns-in-Err c = rw c.in-Err.is (ap (λ (x : Refusal). answer_words (err x)) c.numbers-n.ensures)
