-- `enter_identification` meets its contract: it is not read, or the answer of its listing.
use mathlib.Core.Path.{refl}
use Rattle.mdf4.specs.Kinds.{no_records}
use Rattle.walk_state.proofs.Steps.{handed, dropped}
use Rattle.walk_blocks.proofs.Entering.{found_enters}
use Rattle.walker.proofs.HeaderSteps.{id_refused, id_found}
use Rattle.walker.proofs.header.enter_identification.Goals as goal

pub returns-in_err-parse : goal.returns-in_err-parse
returns-in_err-parse c = handed _ c.from_residual.ensures.1 (dropped _ (λ u. refl) (id_refused c.in_err-parse.ensures.says))

pub returns : goal.returns
returns c =
    let y = id_found _ c.in_ok-parse.ensures.says c.plain-block.ensures in
    dropped _ (λ u. refl) (found_enters y (c.list_block.ensures (no_records 0) y.own y.tells))
