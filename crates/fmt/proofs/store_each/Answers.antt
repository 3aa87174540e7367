-- The bytes so far are written.
use Rattle.std.proofs.Common.{rules}
use Rattle.fmt.proofs.Text.{none, then_take}
use Rattle.fmt.proofs.store_each.Goals as goal

pub loop-b-init : goal.loop-b-init
loop-b-init c = none _ _

pub loop-b-preserved : goal.loop-b-preserved
loop-b-preserved c = search (rules, then_take)
