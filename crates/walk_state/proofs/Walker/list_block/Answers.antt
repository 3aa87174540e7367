-- `Walker::list_block` meets its contract: the callback reads the targets.
use Rattle.std.proofs.Common.{refl, rules}
use Rattle.walk_state.proofs.Walker.list_block.Goals as goal

pub returns : goal.returns
returns c h o t = c.list_links.ensures h o c.args.targets.now (record { long = refl; each = λ i x l p. search rules }) t
