-- `put_counts` meets its contract. The invariant: the ranges found are counted.
use Rattle.std.proofs.Common.{arith}
use Rattle.clear_ranges.proofs.Sweeping.{going, among, turn, done}
use Rattle.blanking.proofs.Zeroing.{next_inner}
use Rattle.blanking.proofs.Counting.{counting, total_most, count_room, count_turn, part_counted}
use Rattle.blanking.proofs.put_counts.Goals as goal

pub loop-at-init : goal.loop-at-init
loop-at-init c =
    rw (c.into_iter-at-iterator.ensures.into_iter_gives, c.enumerate-at-items.ensures.source, c.enumerate-at-items.ensures.count)
    (going c.new.ensures (counting _ _))

pub slice_bounds-count_nonzero-count : goal.slice_bounds-count_nonzero-count
slice_bounds-count_nonzero-count c = (next_inner c.requires.0 c.loop-at.invariant c.in-Some.ensures.steps.0).0

pub slice_bounds-count_nonzero-start : goal.slice_bounds-count_nonzero-start
slice_bounds-count_nonzero-start c = let h = next_inner c.requires.0 c.loop-at.invariant c.in-Some.ensures.steps.0 in omega arith

pub slice_bounds-count_nonzero-end : goal.slice_bounds-count_nonzero-end
slice_bounds-count_nonzero-end c = let h = next_inner c.requires.0 c.loop-at.invariant c.in-Some.ensures.steps.0 in omega arith

pub overflow_add-total : goal.overflow_add-total
overflow_add-total c =
    let l = c.loop-at.invariant in
    let s = c.in-Some.ensures.steps.0 in
    let h = next_inner c.requires.0 l s in
    let e = part_counted c.args.«data».now _ _ h.0 h.1 c.count_nonzero-count.ensures in
    omega (arith, total_most l.holds _ _ c.requires.0 (among l s))

pub loop-at-preserved : goal.loop-at-preserved
loop-at-preserved c =
    let l = c.loop-at.invariant in
    let s = c.in-Some.ensures.steps in
    let h = next_inner c.requires.0 l s.0 in
    let e = part_counted c.args.«data».now _ _ h.0 h.1 c.count_nonzero-count.ensures in
    rw (s.1, s.2) (turn l s.0 (λ ps d p. count_turn p _ (count_room p _ _ d c.requires.1) e))

pub returns : goal.returns
returns c = (done c.loop-at.invariant c.in-None.ensures.steps.0.0).so_far
