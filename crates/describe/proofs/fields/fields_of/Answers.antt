-- `fields_of` meets its contract: a block that can be read is not refused.
use Rattle.blocks.proofs.Parse.{parsed_read}
use Rattle.describe.proofs.Own.{own_read}
use Rattle.describe.proofs.fields.fields_of.Goals as goal

pub unreachable-requires : goal.unreachable-requires
unreachable-requires g c = let e = parsed_read g.B.BlockParse.fields_of _ _ _ (own_read c.requires) c.parse.result c.parse.ensures in let f = c.in_default.is in cc

pub returns : goal.returns
returns g c = let e = parsed_read g.B.BlockParse.fields_of _ _ _ (own_read c.requires) c.parse.result c.parse.ensures in let f = c.in-Ok.is in cc
