-- `put_ranges` meets its contract. The invariant: the ranges found are written.
use Rattle.clear_ranges.proofs.Sweeping.{going, turn, done}
use Rattle.clr.proofs.Writing.{write_none, write_turn}
use Rattle.clr.proofs.put_ranges.Goals as goal

pub loop-range-init : goal.loop-range-init
loop-range-init c = going (rw c.into_iter-range-iterator.ensures.into_iter_gives c.new-range-items.ensures) (write_none _)

pub loop-range-preserved : goal.loop-range-preserved
loop-range-preserved c =
    let start = rw c.to_le_bytes.ensures at c.put_bytes.ensures in
    let end = rw c.to_le_bytes-in-loop-range.ensures at c.put_bytes-in-loop-range.ensures in
    turn c.loop-range.invariant c.in-Some.ensures.steps (λ ps e p. write_turn _ ps p start end)

pub returns : goal.returns
returns c = done c.loop-range.invariant c.in-None.ensures.steps.0
