-- `enter_list` meets its contract: visited, one list too many, refused by the visited table, or opened.
use Rattle.std.specs.Prelude as std
use Rattle.std.proofs.Common.{sym, ap, ◌∙◌}
use Rattle.mdf4.specs.Act.{DL}
use Rattle.walk_state.proofs.Steps.{handed, then, next, halt, halt_next, done}
use Rattle.walk_blocks.specs.Regions.{links_at}
use Rattle.walk_blocks.proofs.DataLists.{enter_seen, enter_deep, enter_new}
use Rattle.walk_blocks.proofs.regions.enter_list.Goals as goal

pub returns-then-seen-clause-opens : goal.returns-then-seen-clause-opens
returns-then-seen-clause-opens c = enter_seen c.args.addr (sym c.seen.ensures ∙ c.if-seen.true) c.args.depth

pub returns-then-depth-eq0-clause-opens : goal.returns-then-depth-eq0-clause-opens
returns-then-depth-eq0-clause-opens c = enter_deep c.args.addr (sym c.seen.ensures ∙ c.if-seen.false) c.args.depth c.if-depth-eq0.true

pub returns-in_err-visit-clause-opens : goal.returns-in_err-visit-clause-opens
returns-in_err-visit-clause-opens c =
    enter_new c.args.addr (sym c.seen.ensures ∙ c.if-seen.false) c.args.depth c.if-depth-eq0.false
    (handed _ c.from_residual.ensures.1 (halt_next _ (c.in_err-visit.ensures DL)))

pub returns-in_err-count-clause-opens : goal.returns-in_err-count-clause-opens
returns-in_err-count-clause-opens c =
    enter_new c.args.addr (sym c.seen.ensures ∙ c.if-seen.false) c.args.depth c.if-depth-eq0.false
    (handed _ c.from_residual-in_err-count.ensures.1 (next (c.in_ok-visit.ensures DL) (halt _ c.in_err-count.ensures.opens)))

pub returns-clause-opens : goal.returns-clause-opens
returns-clause-opens c =
    let v = c.in_ok-visit.ensures DL in
    enter_new c.args.addr (sym c.seen.ensures ∙ c.if-seen.false) c.args.depth c.if-depth-eq0.false
    (next v (then _ c.in_ok-count.ensures.opens (done (ap (λ y. std.Some (links_at y.now c.args.addr c.in_ok-count.count)) (sym v.keeps.file)))))

pub returns-clause-inside : goal.returns-clause-inside
returns-clause-inside c = rw (c.in_ok-visit.ensures DL).keeps.file at c.in_ok-count.ensures.inside
