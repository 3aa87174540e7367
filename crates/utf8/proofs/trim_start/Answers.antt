-- The parts up to the first that is not white are passed (`Passed`).
use Rattle.std.proofs.Common.{arith, refl, ap, length}
use Rattle.std.proofs.lemmas.List.{take_rest}
use Rattle.utf8.proofs.Decoding.{passed_none, passed_back, passed_more, passed_fits}
use Rattle.utf8.proofs.Trimming.{start_white, start_other, start_none}
use Rattle.utf8.proofs.trim_start.Goals.{in-None, in-Some+then-not-is_white}
use Rattle.utf8.proofs.trim_start.Goals as goal

pub loop-part-init : goal.loop-part-init
loop-part-init c = rw c.into_iter-part-iterator.ensures.into_iter_gives (passed_none c.args.text.now, refl)

pub overflow_add-start : goal.overflow_add-start
overflow_add-start c = let h = passed_fits c.loop-part.invariant.0 c.in-Some.part c.in-Some.ensures.steps (ap length c.bytes.ensures) in omega arith

pub loop-part-preserved : goal.loop-part-preserved
loop-part-preserved c =
    (passed_more c.loop-part.invariant.0 c.in-Some.part c.in-Some.ensures.steps (ap length c.bytes.ensures), start_white c.loop-part.invariant.1 c.in-Some.ensures.steps c.if-not-is_white.ensures)

pub returns-clause-trimmed : goal.returns-clause-trimmed
returns-clause-trimmed c =
    rw (take_rest, passed_back c.loop-part.invariant.0)
    (elim c.match-next.branch [
      | in-None w ↦ start_none c.loop-part.invariant.1 w.in-None.ensures.steps.0
      | in-Some+then-not-is_white w ↦ start_other c.loop-part.invariant.1 w.in-Some.ensures.steps w.if-not-is_white.ensures
    ])
