-- `walk_channel_groups` meets its contract: a loop over a chain, which hands on the first group's record layout.
use mathlib.Core.Path.{refl}
use Rattle.mdf4.proofs.Fuel.{walk_channel_group_moves}
use Rattle.walk_state.proofs.Steps.{then, halt, done}
use Rattle.walk_state.proofs.Steps as steps
use Rattle.walker.specs.Groups.{handed}
use Rattle.walker.proofs.Chaining.{going, going_on, going_off, gone, left_falls}
use Rattle.walker.proofs.GroupSteps.{handed_of, handed_more, handed_last}
use Rattle.walker.proofs.groups.walk_channel_groups.Invariants.{step}
use Rattle.walker.proofs.groups.walk_channel_groups.Goals as goal

pub loop-addr-init : goal.loop-addr-init
loop-addr-init c = going (step c.args.record_id_len) _ _ _

pub returns-in_err-group : goal.returns-in_err-group
unfolding handed
returns-in_err-group c fuel h =
    let n = c.args.record_id_len in
    steps.handed _ c.from_residual.ensures.1
    (halt _ (going_off {f = step n} (λ fuel. walk_channel_group_moves fuel n) c.loop-addr.invariant c.loop-addr-test.true {j = λ x. x} (λ fuel h. c.in_err-group.ensures fuel _ h) fuel h))

pub loop-addr-smaller : goal.loop-addr-smaller
loop-addr-smaller c =
    let n = c.args.record_id_len in
    left_falls {f = step n} (λ fuel. walk_channel_group_moves fuel n) c.loop-addr-test.true (λ fuel h. c.in_ok-group.ensures fuel (handed_of n c.loop-addr.layout) h)

pub loop-addr-preserved : goal.loop-addr-preserved
loop-addr-preserved c =
    let n = c.args.record_id_len in
    let g = going_on {f = step n} (λ fuel. walk_channel_group_moves fuel n) c.loop-addr.invariant c.loop-addr-test.true (λ fuel h. c.in_ok-group.ensures fuel (handed_of n c.loop-addr.layout) h) in
    rw (handed_more n c.loop-addr.layout _, ← c.or-layout.ensures) at g

pub returns : goal.returns
unfolding handed
returns c fuel h =
    let n = c.args.record_id_len in
    then _ (gone {j = λ x. x} {c = handed_of n c.loop-addr.layout} c.loop-addr.invariant c.loop-addr-test.false refl fuel h) (done (rw c.unwrap_or.ensures (handed_last n c.loop-addr.layout _ c.no_layout.ensures)))
