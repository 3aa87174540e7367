-- `walk_conversion` meets its contract: null, seen, or refused.
use Rattle.std.proofs.Common.{◌≡◌, refl, sym, ◌∙◌, eqb, true, false, take}
use borrow.Author.Tests.{eq-eqb, ne_eqb}
use Rattle.mdf4.specs.Act.{elem, pure, stop, choose, seen, reason}
use Rattle.mdf4.specs.Walk.{walk_conversion}
use Rattle.mdf4.proofs.Bytes.{or_right}
use Rattle.walk_state.specs.Within.{held}
use Rattle.walk_blocks.proofs.texts.walk_conversion.Goals.{then-addr-eq0-via-then-addr-eq0, then-addr-eq0-via-else-addr-eq0+then-seen}
use Rattle.walk_blocks.proofs.texts.walk_conversion.Goals as goal

pub returns-then-addr-eq0 : goal.returns-then-addr-eq0
unfolding walk_conversion seen choose pure reason held
returns-then-addr-eq0 c file b l = elim c.then-addr-eq0.branch [
  | then-addr-eq0-via-then-addr-eq0 w ↦ rw (eq-eqb c.args.addr 0 w.if-addr-eq0.true) refl
  | then-addr-eq0-via-else-addr-eq0+then-seen w ↦
      let e : elem c.args.addr (take c.args.counts.visited c.args.visited.now) ≡ true = sym w.seen.ensures ∙ w.if-seen.true in
      rw (e, or_right (eqb c.args.addr 0) true refl) refl
]

pub returns : goal.returns
unfolding walk_conversion seen choose stop reason held
returns c file b l =
    let e : elem c.args.addr (take c.args.counts.visited c.args.visited.now) ≡ false = sym c.seen.ensures ∙ c.if-seen.false in
    rw (e, ne_eqb c.args.addr 0 c.if-addr-eq0.false) refl
