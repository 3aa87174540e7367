-- A number of one byte is that byte.
use Rattle.std.proofs.Common.{rules}
use Rattle.little_endian.proofs.Sums.{one_byte}
use Rattle.little_endian.proofs.read_u8.Goals as goal

pub returns : goal.returns
returns c = one_byte c.args.s.now c.args.at (search rules)
