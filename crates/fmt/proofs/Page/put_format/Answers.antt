-- Each byte's text is written, with the number that it takes.
use Rattle.std.proofs.Common.{arith, rules, ◌≡◌, get_or}
use Rattle.fmt.specs.Format.{format}
use Rattle.fmt.proofs.Text.{rest_start, rest_more, rest_done}
use Rattle.fmt.proofs.Format.{format_turn, format_end}
use Rattle.fmt.proofs.Page.put_format.Goals as goal

pub loop-b-init : goal.loop-b-init
unfolding format
loop-b-init c = (omega arith, rest_start c.args.self.now _)

pub loop-b-preserved : goal.loop-b-preserved
loop-b-preserved c =
    let number : c.unwrap_or.result ≡ get_or c.args.xs.now c.loop-b.j 0 = search rules in
    (omega arith, rest_more _ _ (rw (format_turn c.args.t.now c.args.xs.now c.loop-b.b-index c.loop-b.j (omega arith), ← number, ← c.takes_of-j.ensures.number) at c.loop-b.invariant.1) c.put_piece.ensures)

pub returns : goal.returns
returns c = rest_done (rw (format_end c.args.t.now c.args.xs.now c.loop-b.b-index c.loop-b.j c.loop-b-test.false) at c.loop-b.invariant.1)
