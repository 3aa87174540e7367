-- The loop goes through all parts (`Passed`) and remembers where the last one that is not white ended.
use Rattle.std.proofs.Common.{arith, ap, length, sym, ◌∙◌}
use Rattle.utf8.proofs.Decoding.{size, passed_none, passed_more, passed_fits}
use Rattle.utf8.proofs.Trimming.{end_none, end_white, end_other, ended}
use Rattle.utf8.proofs.trim_end.Goals as goal

pub loop-part-init : goal.loop-part-init
loop-part-init c = rw c.into_iter-part-iterator.ensures.into_iter_gives (passed_none c.args.text.now, omega arith, sym end_none)

pub overflow_add-at : goal.overflow_add-at
overflow_add-at c = let h = passed_fits c.loop-part.invariant.0 c.in-Some.part c.in-Some.ensures.steps (ap length c.bytes.ensures) in omega arith

pub loop-part-preserved-then-not-is_white : goal.loop-part-preserved-then-not-is_white
loop-part-preserved-then-not-is_white c =
    let p = passed_more c.loop-part.invariant.0 c.in-Some.part c.in-Some.ensures.steps (ap length c.bytes.ensures) in
    (p, omega arith, p.place ∙ ap size (sym (end_other c.loop-part.yielded c.in-Some.part c.if-not-is_white.ensures)))

pub loop-part-preserved : goal.loop-part-preserved
loop-part-preserved c = (
  passed_more c.loop-part.invariant.0 c.in-Some.part c.in-Some.ensures.steps (ap length c.bytes.ensures),
  omega arith,
  c.loop-part.invariant.2 ∙ ap size (sym (end_white c.loop-part.yielded c.in-Some.part c.if-not-is_white.ensures)),
)

pub returns-clause-trimmed : goal.returns-clause-trimmed
returns-clause-trimmed c = ended c.loop-part.invariant.0 c.in-None.ensures.steps.0 c.loop-part.invariant.2
