-- `walk_text_like` meets its contract: null, seen, refused by the visited table, past u64, too short, or entered.
use Rattle.std.proofs.Common.{arith}
use Rattle.mdf4.specs.Act.{UT}
use Rattle.mdf4.specs.Walk.{walk_text_like}
use Rattle.walk_state.proofs.Steps.{handed}
use Rattle.walk_blocks.proofs.Walking.{link_null, link_halt, link_old, link_new, text_past, text_short, text_there}
use Rattle.walk_blocks.proofs.texts.walk_text_like.Goals as goal

pub returns-then-addr-eq0 : goal.returns-then-addr-eq0
unfolding walk_text_like
returns-then-addr-eq0 c = link_null UT _ _ c.if-addr-eq0.true

pub returns-in_err-mark : goal.returns-in_err-mark
unfolding walk_text_like
returns-in_err-mark c = handed _ c.from_residual.ensures.1 (link_halt UT _ _ c.if-addr-eq0.false (c.in_err-mark.ensures UT))

pub returns-then-not-branch : goal.returns-then-not-branch
unfolding walk_text_like
returns-then-not-branch c = link_old UT _ _ c.if-addr-eq0.false c.if-not-branch.true (c.in_ok-mark.ensures UT)

pub returns-in_default : goal.returns-in_default
unfolding walk_text_like
returns-in_default c =
    link_new UT _ _ c.if-addr-eq0.false c.if-not-branch.false (c.in_ok-mark.ensures UT) (text_past c.args.addr (grind arith))

pub returns-then-walker-end : goal.returns-then-walker-end
unfolding walk_text_like
returns-then-walker-end c =
    link_new UT _ _ c.if-addr-eq0.false c.if-not-branch.false (c.in_ok-mark.ensures UT) (text_short c.args.addr (grind arith) (grind arith))

pub returns : goal.returns
unfolding walk_text_like
returns c =
    link_new UT _ _ c.if-addr-eq0.false c.if-not-branch.false (c.in_ok-mark.ensures UT) (text_there c.args.addr (grind arith) (grind arith) c.enter_text.ensures)
