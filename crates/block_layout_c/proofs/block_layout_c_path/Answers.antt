-- `block_layout_c_path` meets its contract: the entry, and its answer as words. Assumes nothing.
use Rattle.block_layout_c.proofs.Exits.{exit_told, answer_told}
use Rattle.block_layout_c.proofs.block_layout_c_path.Goals as goal

pub returns : goal.returns
returns c = record {
  tables = exit_told _ _ _ _ _ _ _ _ c.path-r.ensures.exit;
  answer = answer_told _ _ _ _ _ _ _ _ c.path-r.ensures.exit _ c.store_answer.ensures;
}
