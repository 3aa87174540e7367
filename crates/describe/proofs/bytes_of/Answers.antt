-- `bytes_of` meets its contract: the four low bytes are those of the mark.
use Rattle.mdf4.specs.Describe.{mark_bytes}
use Rattle.describe.proofs.bytes_of.Goals as goal

pub returns : goal.returns
unfolding mark_bytes
returns c = rw c.to_le_bytes.ensures
