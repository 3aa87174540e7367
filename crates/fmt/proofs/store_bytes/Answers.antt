-- Where all bytes fit, those so far are written.
use Rattle.std.proofs.Common.{arith}
use Rattle.fmt.proofs.Text.{none, stored, then_take}
use Rattle.fmt.proofs.store_bytes.Goals as goal

pub loop-b-init : goal.loop-b-init
loop-b-init c = (omega arith, none _ _)

pub loop-b-preserved : goal.loop-b-preserved
loop-b-preserved c = (omega arith, then_take c.args.s.now c.loop-b.b-index c.loop-b-test.true c.loop-b.invariant.1 (stored _ _ _ (omega arith)))
