-- `block_layout_c_blank` meets its contract: the entry, its answer as words, and the recording that it leaves. Assumes nothing.
use Rattle.block_layout_c.proofs.Exits.{exit_told, answer_told}
use Rattle.block_layout_c.proofs.block_layout_c_blank.Goals as goal

pub returns : goal.returns
returns c = record {
  tables = exit_told _ _ _ _ _ _ _ _ c.blank-r.ensures.exit;
  answer = answer_told _ _ _ _ _ _ _ _ c.blank-r.ensures.exit _ c.store_answer.ensures;
  recording = c.blank-r.ensures.recording;
}
