-- `put_head` meets its contract: four texts, one after the other.
use Rattle.fmt.proofs.Text.{writes_then}
use Rattle.mdf4.specs.Listing.{head_lines}
use Rattle.to_text.proofs.put_head.Goals as goal

pub returns : goal.returns
unfolding head_lines
returns c = writes_then (writes_then (writes_then c.put_format.ensures c.put_format-2.ensures) c.put_bytes.ensures) c.put_bytes-2.ensures
