-- `Walker::mark` meets its contract: visited, refused, or marked.
use Rattle.std.proofs.Common.{refl, sym, ◌∙◌, true, false}
use Rattle.walk_state.specs.Held.{mark}
use Rattle.walk_state.proofs.Steps.{handed, next, halt_next, yes, no, looked, done}
use Rattle.walk_state.proofs.Walker.mark.Goals as goal

pub returns-then-seen : goal.returns-then-seen
unfolding mark
returns-then-seen c k = looked _ _ true (sym c.seen.ensures ∙ c.if-seen.true) (yes _ refl (done refl))

pub returns-in_err-visit : goal.returns-in_err-visit
unfolding mark
returns-in_err-visit c k =
    handed _ c.from_residual.ensures.1 (looked _ _ false (sym c.seen.ensures ∙ c.if-seen.false) (no _ refl (halt_next _ (c.in_err-visit.ensures k))))

pub returns : goal.returns
unfolding mark
returns c k = looked _ _ false (sym c.seen.ensures ∙ c.if-seen.false) (no _ refl (next (c.in_ok-visit.ensures k) (done refl)))
