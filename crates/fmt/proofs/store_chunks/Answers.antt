-- Each part is written, and those that are to come are left (`Left`).
use Rattle.fmt.proofs.Text.{left_start, left_done}
use Rattle.fmt.proofs.Preview.{part_written, mark_written, flat_none}
use Rattle.fmt.proofs.store_chunks.Goals as goal

pub loop-part-init : goal.loop-part-init
loop-part-init c = rw c.into_iter-part-iterator.ensures.into_iter_gives (left_start _ _)

pub loop-part-preserved-in-Char : goal.loop-part-preserved-in-Char
loop-part-preserved-in-Char c = part_written c.args.one c.loop-part.invariant (rw c.in-Char.is at c.in-Some.ensures.steps) c.store_char-at.ensures

pub loop-part-preserved : goal.loop-part-preserved
loop-part-preserved c = mark_written c.args.one c.loop-part.invariant (rw c.in-Junk.is at c.in-Some.ensures.steps) c.store_each-at.ensures

pub returns : goal.returns
returns c = left_done (rw (c.in-None.ensures.steps.0, flat_none) at c.loop-part.invariant)
