-- `walk_data_groups` meets its contract: a loop over a chain.
use Rattle.mdf4.specs.Walk.{walk_data_group}
use Rattle.walker.proofs.Chaining.{Step, Going, left}
use Rattle.walker.proofs.data_groups.walk_data_groups.Given as goal

abbrev pub step : Step (Unit {0})
step = walk_data_group

abbrev pub invariant-loop-addr : goal.invariant-loop-addr
invariant-loop-addr l = Going step l.first tt l.initial.walker l.addr tt l.walker

abbrev pub decreases-loop-addr : goal.decreases-loop-addr
decreases-loop-addr l = left l.addr l.walker
