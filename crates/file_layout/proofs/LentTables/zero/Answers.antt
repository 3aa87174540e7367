-- `LentTables::zero` meets its contract. Assumes nothing.
use Rattle.file_layout.proofs.LentTables.zero.Goals as goal

pub returns-clause-zeroed : goal.returns-clause-zeroed
returns-clause-zeroed c = record {
  visited = c.fill.ensures.after (λ y e. e);
  blocks = c.fill-2.ensures.after (λ y e. e);
  links = c.fill-3.ensures.after (λ y e. e);
  gaps = c.fill-4.ensures.after (λ y e. e);
}
