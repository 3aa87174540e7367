-- `Walker::visit` meets its contract: the offset stands behind those in use, or the table is full.
use Rattle.std.proofs.Common.{refl, length-set, arith}
use Rattle.walk_state.proofs.States.{visit_within, visit_on, visit_full}
use Rattle.walk_state.proofs.Steps.{keeps_same}
use Rattle.walk_state.proofs.Walker.visit.Goals as goal

pub invariant_of-self : goal.invariant_of-self
invariant_of-self c =
    let w = c.args.self.now in
    record { within = visit_within w.walk w.visited.now w.blocks.now w.links.now w.within c.args.at (omega arith) }

pub returns-then-n-self : goal.returns-then-n-self
returns-then-n-self c k =
    let w = c.args.self.now in
    record {
      says = visit_on w.walk w.visited.now w.blocks.now w.links.now w.within c.args.at k w.file.now (omega arith);
      keeps = record {
        file = refl;
        visited = refl;
        blocks = refl;
        links = refl;
        visited_long = length-set w.visited.now w.walk.visited c.args.at;
        blocks_long = refl;
        links_long = refl;
        grew = omega arith;
      };
    }

pub returns : goal.returns
returns c k =
    let w = c.args.self.now in
    record { says = visit_full w.walk w.visited.now w.blocks.now w.links.now w.within c.args.at k w.file.now (omega arith); keeps = keeps_same }
