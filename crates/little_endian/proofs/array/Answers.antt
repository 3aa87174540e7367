-- The first N bytes of those from `at` on.
use Rattle.std.proofs.Common.{◌∙◌}
use Rattle.std.proofs.lemmas.List.{take_rest}
use Rattle.mdf4.specs.Bytes.{bytes}
use Rattle.little_endian.proofs.array.Goals as goal

pub returns : goal.returns
unfolding bytes
returns g c = (rw c.unwrap.ensures at c.first_chunk.ensures.cases).same ∙ rw take_rest
