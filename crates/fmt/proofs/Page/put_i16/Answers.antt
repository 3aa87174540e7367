-- The sign, where there is one, and the magnitude.
use Rattle.std.proofs.Common.{to_z-of_z}
use Rattle.fmt.proofs.Text.{writes_then}
use Rattle.fmt.proofs.Bits16.{below_zero, from_zero}
use Rattle.fmt.proofs.Page.put_i16.Goals.{then-x-lt0, else-x-lt0}
use Rattle.fmt.proofs.Page.put_i16.Goals as goal

pub returns : goal.returns
returns c =
    let x = c.args.x in
    let e = to_z-of_z c.ranges.x in
    let n = rw (c.from.ensures, c.unsigned_abs.ensures.value, e) at c.put_dec.ensures in
    elim c.if-x-lt0.branch [
      | then-x-lt0 w ↦ rw (below_zero x (rw e at w.if-x-lt0.true)) (writes_then (rw (← w.self-is) at w.put.ensures) n)
      | else-x-lt0 w ↦ rw (from_zero x (rw e at w.if-x-lt0.false)) (rw w.self-is at n)
    ]
