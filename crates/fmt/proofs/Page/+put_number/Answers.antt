-- The filler or the digits in front, and the last digit.
use Rattle.std.proofs.Common.{arith}
use Rattle.fmt.proofs.Text.{writes_then}
use Rattle.fmt.proofs.Digits.{number_small, number_more}
use Rattle.fmt.proofs.Page.+put_number.Goals as goal

pub returns-then-x-base : goal.returns-then-x-base
returns-then-x-base t c =
    let a = c.args in
    rw (number_small a.width a.pad a.base a.x c.if-x-base.true, ← c.saturating_sub-before.ensures)
    (writes_then c.put_times.ensures c.put_digit.ensures)

pub returns-else-x-base : goal.returns-else-x-base
returns-else-x-base t c =
    let a = c.args in
    rw (number_more a.width a.pad a.base a.x (omega arith) c.if-x-base.false, ← c.saturating_sub-before.ensures)
    (writes_then c.put_number.ensures c.put_digit-else-x-base.ensures)
