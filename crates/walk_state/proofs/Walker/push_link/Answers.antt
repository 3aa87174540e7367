-- `Walker::push_link` meets its contract: its two words are stored behind those in use.
use Rattle.std.proofs.Common.{refl, length-set, arith}
use Rattle.walk_state.specs.Within.{link_of}
use Rattle.walk_state.proofs.States.{link_says, link_within}
use Rattle.walk_state.proofs.Walker.push_link.Goals as goal

pub invariant_of-self : goal.invariant_of-self
invariant_of-self c =
    let w = c.args.self.now in
    record { within = link_within w.walk w.visited.now w.blocks.now w.links.now (omega arith) (link_of c.args.link) w.within }

pub returns : goal.returns
returns c =
    let w = c.args.self.now in
    record {
      says = link_says w.walk w.visited.now w.blocks.now w.links.now (omega arith) (link_of c.args.link);
      keeps = record {
        file = refl;
        visited = refl;
        blocks = refl;
        links = refl;
        visited_long = refl;
        blocks_long = refl;
        links_long = simp length-set;
        grew = omega arith;
      };
    }
