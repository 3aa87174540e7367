-- There are no more parts than bytes.
use Rattle.std.proofs.Common.{arith, inl}
use Rattle.utf8.proofs.Decoding.{chunks_le}
use Rattle.utf8.proofs.count_chars.Goals as goal

pub count-requires-clause-fits : goal.count-requires-clause-fits
count-requires-clause-fits c = inl (omega (arith, chunks_le c.args.text.now))
