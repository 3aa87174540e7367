-- Where all bytes fit, those so far are written.
use Rattle.std.proofs.Common.{◌≡◌, ◌+◌, take}
use Rattle.fmt.specs.Text.{Wrote}
use Rattle.fmt.proofs.store_bytes.Given as goal

abbrev pub invariant-loop-b : goal.invariant-loop-b
invariant-loop-b l = (l.end ≡ l.at + l.b-index) × Wrote l.initial.out l.at (take l.b-index l.s) l.out l.end
