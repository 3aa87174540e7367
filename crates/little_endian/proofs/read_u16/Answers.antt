-- The bytes, summed by the library.
use Rattle.std.proofs.Common.{rules}
use Rattle.little_endian.proofs.Sums.{summed_at}
use Rattle.little_endian.proofs.read_u16.Goals as goal

pub returns : goal.returns
returns c = summed_at c.args.s.now c.args.at 1 (search rules) (rw c.array.ensures at c.from_le_bytes.ensures)
