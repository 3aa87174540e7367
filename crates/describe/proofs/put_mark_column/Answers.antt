-- `put_mark_column` meets its contract: blanks fill the mark to six characters.
use Rattle.fmt.proofs.Text.{writes_then}
use Rattle.describe.proofs.Written.{writes_as}
use Rattle.mdf4.specs.Describe.{mark_column}
use Rattle.describe.proofs.put_mark_column.Goals as goal

pub returns : goal.returns
unfolding mark_column
returns c = writes_as (writes_then c.put_mark.ensures c.put_times.ensures) (cc)
