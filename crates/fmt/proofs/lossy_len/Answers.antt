-- The bytes so far and those of the parts that are to come are the text's.
use Rattle.std.proofs.Common.{arith}
use Rattle.utf8.specs.Utf8.{lossy}
use Rattle.fmt.proofs.Preview.{char_counts, junk_counts, none_counts}
use Rattle.fmt.proofs.lossy_len.Goals.{in-Char, in-Junk}
use Rattle.fmt.proofs.lossy_len.Goals as goal

pub loop-part-init : goal.loop-part-init
unfolding lossy
loop-part-init c = rw c.into_iter-part-iterator.ensures.into_iter_gives (omega arith, omega arith)

pub loop-part-preserved : goal.loop-part-preserved
loop-part-preserved c =
    elim c.match-part.branch [
      | in-Char w ↦ (omega arith, omega (arith, w.saturating_add-is, char_counts (rw w.in-Char.is at c.in-Some.ensures.steps)))
      | in-Junk w ↦ (omega arith, omega (arith, w.saturating_add-is, junk_counts (rw w.in-Junk.is at c.in-Some.ensures.steps)))
    ]

pub returns : goal.returns
returns c = omega (arith, none_counts, rw c.in-None.ensures.steps.0 at c.loop-part.invariant.1)
