-- `linked_end` meets its contract.
use Rattle.std.proofs.Common.{arith}
use Rattle.scratch_rows.proofs.Filling.{block_end}
use Rattle.scratch_rows.proofs.linked_end.Goals as goal

pub returns : goal.returns
returns c = block_end c.args.file.now c.args.target (omega (arith, c.read_u64.ensures, c.max-size.ensures, c.min.ensures))
