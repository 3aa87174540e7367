-- `Walker::row_of` meets its contract: the index and the first link are those of the state.
use borrow.Author.Tests.{eq-eqb, ne_eqb}
use Rattle.walk_state.proofs.Listing.{words_made}
use Rattle.walk_state.proofs.Walker.row_of.Goals as goal

pub returns-then-count-eq0 : goal.returns-then-count-eq0
returns-then-count-eq0 c =
    let w = c.args.self.now in
    words_made c.args.block c.args.count w.walk w.visited.now w.blocks.now w.links.now _ 0 c.index_of.ensures
    (rw (eq-eqb c.args.count 0 c.if-count-eq0.true))

pub returns-else-count-eq0 : goal.returns-else-count-eq0
returns-else-count-eq0 c =
    let w = c.args.self.now in
    words_made c.args.block c.args.count w.walk w.visited.now w.blocks.now w.links.now _ _ c.index_of.ensures
    (rw (ne_eqb c.args.count 0 c.if-count-eq0.false))
