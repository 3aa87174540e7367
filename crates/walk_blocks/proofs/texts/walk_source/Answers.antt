-- `walk_source` meets its contract: null, seen, refused, or listed and its three texts walked.
use Rattle.mdf4.specs.Act.{SI}
use Rattle.mdf4.specs.Kinds.{no_records}
use Rattle.mdf4.specs.Walk.{walk_source}
use Rattle.walk_state.proofs.Steps.{handed, next, halt, halt_next, led}
use Rattle.walk_blocks.proofs.Entering.{enter_refused, found_enters}
use Rattle.walk_blocks.proofs.Walking.{link_null, link_halt, link_old, link_new, source_refused, source_found, source_then}
use Rattle.walk_blocks.proofs.texts.walk_source.Goals as goal

pub returns-then-addr-eq0 : goal.returns-then-addr-eq0
unfolding walk_source
returns-then-addr-eq0 c = link_null SI _ _ c.if-addr-eq0.true

pub returns-in_err-mark : goal.returns-in_err-mark
unfolding walk_source
returns-in_err-mark c = handed _ c.from_residual.ensures.1 (link_halt SI _ _ c.if-addr-eq0.false (c.in_err-mark.ensures SI))

pub returns-then-not-branch : goal.returns-then-not-branch
unfolding walk_source
returns-then-not-branch c = link_old SI _ _ c.if-addr-eq0.false c.if-not-branch.true (c.in_ok-mark.ensures SI)

pub returns-in_err-source : goal.returns-in_err-source
unfolding walk_source
returns-in_err-source c =
    link_new SI _ _ c.if-addr-eq0.false c.if-not-branch.false (c.in_ok-mark.ensures SI)
    (handed _ c.from_residual-in_err-source.ensures.1 (halt _ (enter_refused SI _ _ (source_refused _ _ c.in_err-source.ensures))))

pub returns-in_err-list_block : goal.returns-in_err-list_block
unfolding walk_source
returns-in_err-list_block c =
    let f = source_found _ _ c.in_ok-source.ensures c.plain-block.ensures in
    link_new SI _ _ c.if-addr-eq0.false c.if-not-branch.false (c.in_ok-mark.ensures SI)
    (handed _ c.from_residual-in_err-list_block.ensures.1 (halt _ (found_enters f (c.in_err-list_block.ensures (no_records 0) f.own f.tells))))

pub returns-in_err-walk_text_like : goal.returns-in_err-walk_text_like
unfolding walk_source
returns-in_err-walk_text_like c =
    let f = source_found _ _ c.in_ok-source.ensures c.plain-block.ensures in
    link_new SI _ _ c.if-addr-eq0.false c.if-not-branch.false (c.in_ok-mark.ensures SI)
    (source_then _ _ _ _ (found_enters f (c.in_ok-list_block.ensures (no_records 0) f.own f.tells))
    (handed _ c.from_residual-in_err-walk_text_like.ensures.1 (halt_next _ (halt_next _ (led _ _ c.follow.ensures c.in_err-walk_text_like.ensures)))))

pub returns-in_err-walk_text_like-2 : goal.returns-in_err-walk_text_like-2
unfolding walk_source
returns-in_err-walk_text_like-2 c =
    let f = source_found _ _ c.in_ok-source.ensures c.plain-block.ensures in
    link_new SI _ _ c.if-addr-eq0.false c.if-not-branch.false (c.in_ok-mark.ensures SI)
    (source_then _ _ _ _ (found_enters f (c.in_ok-list_block.ensures (no_records 0) f.own f.tells))
    (handed _ c.from_residual-in_err-walk_text_like-2.ensures.1
    (halt_next _ (next (led _ _ c.follow.ensures c.in_ok-walk_text_like.ensures) (led _ _ c.follow-2.ensures c.in_err-walk_text_like-2.ensures)))))

pub returns : goal.returns
unfolding walk_source
returns c =
    let f = source_found _ _ c.in_ok-source.ensures c.plain-block.ensures in
    link_new SI _ _ c.if-addr-eq0.false c.if-not-branch.false (c.in_ok-mark.ensures SI)
    (source_then _ _ _ _ (found_enters f (c.in_ok-list_block.ensures (no_records 0) f.own f.tells))
    (next (next (led _ _ c.follow.ensures c.in_ok-walk_text_like.ensures) (led _ _ c.follow-2.ensures c.in_ok-walk_text_like-2.ensures))
    (led _ _ c.follow-3.ensures c.walk_text_like-3.ensures)))
