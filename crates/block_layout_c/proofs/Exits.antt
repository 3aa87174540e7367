-- An exit whose answer is told: what C gets of it. Assumes nothing.
use mathlib.Core.Path.{◌≡◌, sym, ap, ◌∙◌}
use mathlib.Core.List.{List}
use Prim.Native.Nat.{ℕ}
use Rattle.mdf4.specs.Act.{Out}
use Rattle.mdf4.specs.Answers.{Counts, Exit}
use Rattle.answers.specs.Entries.{exit_with}
use Rattle.block_layout_c.specs.Words.{answer_words, stored}

module _ (a : Out Counts) (v b l g s o : List ℕ) (x : Exit) (h : exit_with a v b l g s o ≡ x) where
  answer_is : a ≡ x.answer
  unfolding exit_with
  answer_is = ap (λ (y : Exit). y.answer) h

  -- the tables are those of the exit, and the words are those of its answer
  pub exit_told : exit_with x.answer v b l g s o ≡ x
  exit_told = ap (λ (y : Out Counts). exit_with y v b l g s o) (sym answer_is) ∙ h

  pub answer_told : (t : List ℕ) {t' : List ℕ} → t' ≡ stored (answer_words a) t → t' ≡ stored (answer_words x.answer) t
  answer_told t w = w ∙ ap (λ (y : Out Counts). stored (answer_words y) t) answer_is
