-- `Walker::follow` meets its contract: the two words are written, and all else stays.
use Rattle.std.proofs.Common.{refl, arith}
use Rattle.mdf4.specs.Act.{following}
use Rattle.walk_state.specs.Within.{held}
use Rattle.walk_state.proofs.Walker.follow.Goals as goal

pub invariant_of-self : goal.invariant_of-self
invariant_of-self c =
    let h = c.args.self.now.within in
    record { within = record { visited = h.visited; rows = h.rows; links = h.links; dg = h.dg; cg = h.cg; cn = h.cn } }

pub returns : goal.returns
unfolding held following
returns c = record {
  says = refl;
  keeps = record {
    file = refl;
    visited = refl;
    blocks = refl;
    links = refl;
    visited_long = refl;
    blocks_long = refl;
    links_long = refl;
    grew = omega arith;
  };
}
