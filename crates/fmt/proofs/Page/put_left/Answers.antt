-- The bytes, and the filler.
use Rattle.fmt.specs.Digits.{pad_right}
use Rattle.fmt.proofs.Text.{writes_then}
use Rattle.fmt.proofs.Page.put_left.Goals as goal

pub returns : goal.returns
unfolding pad_right
returns c = writes_then c.put_bytes.ensures (rw c.saturating_sub.ensures at c.put_times.ensures)
