-- `put_extra` meets its contract: a line, or none for the kinds that have none.
use Rattle.fmt.proofs.Text.{writes_none}
use Rattle.describe.proofs.Lines.{no_line}
use Rattle.describe.proofs.put_extra.Goals as goal

pub returns-in-DG : goal.returns-in-DG
returns-in-DG c = rw (no_line c.args.file.now c.args.block.now c.in-DG.is) (writes_none _)
