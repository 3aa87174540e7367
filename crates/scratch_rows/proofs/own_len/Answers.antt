-- `own_len` meets its contract: the parser of a block that can be read does not refuse it.
use Rattle.scratch_rows.proofs.Lengths.{told_len}
use Rattle.scratch_rows.proofs.own_len.Goals as goal

pub unreachable-requires : goal.unreachable-requires
unreachable-requires g c = let e = told_len _ _ _ c.requires c.extent.result c.extent.ensures in let f = c.in_default.is in cc

pub returns : goal.returns
returns g c = let e = told_len _ _ _ c.requires c.extent.result c.extent.ensures in let f = c.in-Ok.is in cc
