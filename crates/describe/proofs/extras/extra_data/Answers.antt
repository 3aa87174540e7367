-- `extra_data` meets its contract: 44 blanks, the records, and a line feed.
use Rattle.fmt.proofs.Text.{writes_then}
use Rattle.mdf4.specs.Describe.{indented}
use Rattle.describe.proofs.Lines.{dt_line}
use Rattle.describe.proofs.extras.extra_data.Goals as goal

pub returns : goal.returns
unfolding indented
returns c = rw (dt_line c.requires) (writes_then (writes_then c.put_times.ensures c.put_records.ensures) c.put.ensures)
