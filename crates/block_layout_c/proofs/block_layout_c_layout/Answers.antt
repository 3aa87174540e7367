-- `block_layout_c_layout` meets its contract: the entry, and its answer as words. Assumes nothing.
use Rattle.block_layout_c.proofs.Exits.{exit_told, answer_told}
use Rattle.block_layout_c.proofs.block_layout_c_layout.Goals as goal

pub returns : goal.returns
returns c = record {
  tables = exit_told _ _ _ _ _ _ _ _ c.layout-r.ensures;
  answer = answer_told _ _ _ _ _ _ _ _ c.layout-r.ensures _ c.store_answer.ensures;
}
