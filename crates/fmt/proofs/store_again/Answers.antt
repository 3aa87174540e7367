-- The byte is written as often as the loop has turned.
use Rattle.std.proofs.Common.{rules}
use Rattle.fmt.proofs.Text.{none, then_same}
use Rattle.fmt.proofs.store_again.Goals as goal

pub loop-init : goal.loop-init
loop-init c = none _ _

pub loop-preserved : goal.loop-preserved
loop-preserved c = search (rules, then_same)
