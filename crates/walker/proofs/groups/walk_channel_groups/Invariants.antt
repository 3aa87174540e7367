-- `walk_channel_groups` meets its contract: a loop over a chain, which hands on the first group's record layout.
use Rattle.std.proofs.Common.{false, ℕ}
use Rattle.mdf4.specs.Kinds.{no_records}
use Rattle.mdf4.specs.Walk.{Handed, walk_channel_group}
use Rattle.walker.proofs.Chaining.{Step, Going, left}
use Rattle.walker.proofs.GroupSteps.{handed_of}
use Rattle.walker.proofs.groups.walk_channel_groups.Given as goal

abbrev pub step : ℕ → Step Handed
step id_len fuel = walk_channel_group fuel id_len

abbrev pub invariant-loop-addr : goal.invariant-loop-addr
invariant-loop-addr l =
    Going (step l.record_id_len) l.first (false, no_records l.record_id_len) l.initial.walker l.addr (handed_of l.record_id_len l.layout) l.walker

abbrev pub decreases-loop-addr : goal.decreases-loop-addr
decreases-loop-addr l = left l.addr l.walker
