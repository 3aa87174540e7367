-- `put_line` meets its contract: 44 blanks, the template, and a line feed.
use Rattle.fmt.proofs.Text.{writes_then}
use Rattle.mdf4.specs.Describe.{indented}
use Rattle.describe.proofs.extras.put_line.Goals as goal

pub returns : goal.returns
unfolding indented
returns c = writes_then (writes_then c.put_times.ensures c.put_format.ensures) c.put.ensures
