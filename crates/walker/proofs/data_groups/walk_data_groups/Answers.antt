-- `walk_data_groups` meets its contract: a loop over a chain.
use mathlib.Core.Path.{refl}
use Rattle.mdf4.proofs.Fuel.{walk_data_group_moves}
use Rattle.walk_state.proofs.Steps.{handed}
use Rattle.walker.proofs.Chaining.{going, going_on, going_off, gone, left_falls}
use Rattle.walker.proofs.data_groups.walk_data_groups.Invariants.{step}
use Rattle.walker.proofs.data_groups.walk_data_groups.Goals as goal

pub loop-addr-init : goal.loop-addr-init
loop-addr-init c = going step _ _ _

pub returns-in_err-addr : goal.returns-in_err-addr
returns-in_err-addr c fuel h =
    handed _ c.from_residual.ensures.1 (going_off {f = step} walk_data_group_moves c.loop-addr.invariant c.loop-addr-test.true (λ fuel h. c.in_err-addr.ensures fuel h) fuel h)

pub loop-addr-smaller : goal.loop-addr-smaller
loop-addr-smaller c = left_falls {f = step} walk_data_group_moves c.loop-addr-test.true (λ fuel h. c.in_ok-addr.ensures fuel h)

pub loop-addr-preserved : goal.loop-addr-preserved
loop-addr-preserved c = going_on {f = step} walk_data_group_moves c.loop-addr.invariant c.loop-addr-test.true (λ fuel h. c.in_ok-addr.ensures fuel h)

pub returns : goal.returns
returns c fuel h = gone c.loop-addr.invariant c.loop-addr-test.false refl fuel h
