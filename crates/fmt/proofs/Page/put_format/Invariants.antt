-- The text of the bytes from here on is left (`Rest`).
use Rattle.std.proofs.Common.{◌≤◌, drop}
use Rattle.fmt.specs.Format.{format_from, format}
use Rattle.fmt.proofs.Text.{Rest}
use Rattle.fmt.proofs.Page.put_format.Given as goal

abbrev pub invariant-loop-b : goal.invariant-loop-b
invariant-loop-b l = (l.j ≤ l.b-index) × Rest l.initial.self l.self (format l.t l.xs) (format_from (drop l.b-index l.t) l.xs l.j)
