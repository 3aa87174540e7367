-- The loop goes through the first parts (`Passed`), and ends after n of them or with the text.
use Rattle.std.proofs.Common.{arith, ap, length, length-append}
use Rattle.utf8.proofs.Decoding.{passed_none, passed_more, passed_fits, passed_taken}
use Rattle.utf8.proofs.first_chars.Goals as goal

pub loop-part-init : goal.loop-part-init
loop-part-init c = rw (c.into_iter-part-iterator.ensures.into_iter_gives, c.take-part-items.ensures.source) (passed_none c.args.text.now, omega arith)

pub overflow_add-len : goal.overflow_add-len
overflow_add-len c = let h = passed_fits c.loop-part.invariant.0 c.in-Some.part c.in-Some.ensures.steps.0 (ap length c.bytes.ensures) in omega arith

pub loop-part-preserved : goal.loop-part-preserved
loop-part-preserved c = (passed_more c.loop-part.invariant.0 c.in-Some.part c.in-Some.ensures.steps.0 (ap length c.bytes.ensures), rw length-append (omega (arith, c.in-Some.ensures.steps.1)))

pub returns-clause-chars : goal.returns-clause-chars
returns-clause-chars c = passed_taken c.loop-part.invariant.0 c.args.n c.loop-part.part-iterator.n (omega arith) (λ h. (c.in-None.ensures.steps h).0)
