-- `put_mark` meets its contract: the four low bytes are those of the mark.
use Rattle.mdf4.specs.Describe.{mark_text}
use Rattle.describe.proofs.put_mark.Goals as goal

pub returns : goal.returns
unfolding mark_text
returns c = rw c.bytes_of.ensures at c.put_lossy.ensures
