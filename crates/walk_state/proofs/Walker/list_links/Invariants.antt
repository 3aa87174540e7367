-- `Walker::list_links` meets its contract: at turn i the targets before i are accepted, and then the links to them are pushed.
use Rattle.walk_state.proofs.Listing.{Accepted, Linking}
use Rattle.walk_state.proofs.Walker.list_links.Given as goal

abbrev pub invariant-loop-i : goal.invariant-loop-i
invariant-loop-i g l = Accepted (goal.F-post g l.target) l.count l.i

abbrev pub invariant-loop-i-2 : goal.invariant-loop-i-2
invariant-loop-i-2 g l = Linking (goal.F-post g l.target) l.count l.initial.self l.self l.i
