-- `zero_ranges` meets its contract. The invariant: the ranges found are zero, and no other byte is changed.
use Rattle.std.proofs.Common.{sym, arith}
use Rattle.mdf4.proofs.Zeroed.{zeroed_none}
use Rattle.clear_ranges.proofs.Sweeping.{going, turn}
use Rattle.blanking.proofs.Zeroing.{next_inner, zero_turn, zero_part}
use Rattle.blanking.proofs.zero_ranges.Goals as goal

pub loop-range-init : goal.loop-range-init
loop-range-init c = going (rw c.into_iter-range-iterator.ensures.into_iter_gives c.new-range-items.ensures) (sym (zeroed_none 0 _))

pub slice_bounds-fill-count : goal.slice_bounds-fill-count
slice_bounds-fill-count c = let h = next_inner c.requires c.loop-range.invariant c.in-Some.ensures.steps in omega arith

pub slice_bounds-fill-start : goal.slice_bounds-fill-start
slice_bounds-fill-start c = let h = next_inner c.requires c.loop-range.invariant c.in-Some.ensures.steps in omega arith

pub slice_bounds-fill-end : goal.slice_bounds-fill-end
slice_bounds-fill-end c = let h = next_inner c.requires c.loop-range.invariant c.in-Some.ensures.steps in omega arith

pub loop-range-preserved : goal.loop-range-preserved
loop-range-preserved c =
    let h = next_inner c.requires c.loop-range.invariant c.in-Some.ensures.steps in
    let filled = c.fill.ensures.after (λ y e. e) in
    turn c.loop-range.invariant c.in-Some.ensures.steps (λ ps e p. zero_turn _ _ ps p (zero_part _ _ _ h.0 (omega arith) filled))
