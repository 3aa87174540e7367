-- `enter_text` meets its contract: the text is refused, or listed.
use Rattle.mdf4.specs.Kinds.{no_records}
use Rattle.walk_state.proofs.Steps.{handed}
use Rattle.walk_blocks.proofs.Walking.{text_refused, text_listed}
use Rattle.walk_blocks.proofs.texts.enter_text.Goals as goal

pub returns-in_err-block : goal.returns-in_err-block
returns-in_err-block c = handed _ c.from_residual.ensures.1 (text_refused c.args.addr c.in_err-block.ensures.refused)

pub returns : goal.returns
returns c = let f = c.in_ok-block.ensures.read in text_listed c.args.addr f (c.list_block.ensures (no_records 0) f.own f.tells)
