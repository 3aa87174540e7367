-- The byte is stored, or nothing changes since it stands past the end.
use Rattle.std.proofs.Common.{arith}
use Rattle.std.proofs.lemmas.List.{set_past}
use Rattle.fmt.specs.Text.{step, emit}
use Rattle.fmt.proofs.Text.{stored}
use Rattle.fmt.proofs.store.Goals as goal

pub returns-then-at-out : goal.returns-then-at-out
returns-then-at-out c = stored _ _ _ (omega arith)

pub returns-else-at-out : goal.returns-else-at-out
unfolding emit step
returns-else-at-out c = rw c.saturating_add.ensures (record { is = rw (set_past _ _ _ c.if-at-out.false) })
