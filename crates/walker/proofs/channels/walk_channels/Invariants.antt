-- `walk_channels` meets its contract: a loop over a chain.
use Rattle.mdf4.specs.Walk.{walk_channel}
use Rattle.walker.proofs.Chaining.{Step, Going, left}
use Rattle.walker.proofs.channels.walk_channels.Given as goal

abbrev pub step : Step (Unit {0})
step fuel = walk_channel

abbrev pub invariant-loop-addr : goal.invariant-loop-addr
invariant-loop-addr l = Going step l.first tt l.initial.walker l.addr tt l.walker

abbrev pub decreases-loop-addr : goal.decreases-loop-addr
decreases-loop-addr l = left l.addr l.walker
