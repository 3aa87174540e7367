-- `walk` meets its contract: the identification's refusal, or the header's answer.
use Rattle.std.proofs.Common.{refl, arith, length}
use Rattle.mdf4.specs.Act.{◌>>◌}
use Rattle.mdf4.specs.Walk.{walk_identification, walk_header, walk}
use Rattle.walk_state.specs.Within.{held}
use Rattle.walk_state.proofs.Steps.{handed, next, halt_next, alike}
use Rattle.walker.proofs.header.walk.Goals as goal

pub returns-in_err-walk_identification : goal.returns-in_err-walk_identification
unfolding walk held
returns-in_err-walk_identification c =
    handed _ c.from_residual.ensures.1
    (alike {m = walk_identification >> walk_header (length c.args.walker.now.visited.now)} refl (halt_next _ c.in_err-walk_identification.ensures))

pub returns : goal.returns
unfolding walk held
returns c =
    let m = c.in_ok-walk_identification.ensures in
    let d = c.walk_header.ensures (length c.args.walker.now.visited.now) (omega (arith, m.keeps.visited_long)) in
    alike {m = walk_identification >> walk_header (length c.args.walker.now.visited.now)} refl (next m d)
