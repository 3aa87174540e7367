-- `Walker::push_row` meets its contract: its words are stored behind those in use, and the index of its kind goes on.
use Rattle.std.proofs.Common.{refl, arith}
use Rattle.walk_state.proofs.States.{row_pushed, row_fits, row_grew, row_long}
use Rattle.walk_state.proofs.Walker.push_row.Goals as goal

pub invariant_of-self : goal.invariant_of-self
invariant_of-self c =
    let w = c.args.self.now in
    record {
      within = row_fits w.walk _ w.visited.now w.blocks.now _ w.links.now
          (omega arith) _ _ _ c.with_row-self.ensures c.store.ensures c.row_of-row.ensures w.within;
    }

pub returns : goal.returns
returns c =
    let w = c.args.self.now in
    record {
      says = row_pushed w.walk _ w.visited.now w.blocks.now _ w.links.now
          (omega arith) _ _ _ c.with_row-self.ensures c.store.ensures c.row_of-row.ensures;
      keeps = record {
        file = refl;
        visited = refl;
        blocks = refl;
        links = refl;
        visited_long = refl;
        blocks_long = row_long w.walk _ w.visited.now w.blocks.now _ w.links.now
            (omega arith) _ _ _ c.with_row-self.ensures c.store.ensures c.row_of-row.ensures;
        links_long = refl;
        grew = row_grew w.walk _ w.visited.now w.blocks.now _ w.links.now
            (omega arith) _ _ _ c.with_row-self.ensures c.store.ensures c.row_of-row.ensures;
      };
    }
