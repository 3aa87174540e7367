-- `preview_counts` meets its contract: what precedes the counts refuses, or they fit or not. Assumes nothing.
use mathlib.Core.Path.{sym, ap, ◌∙◌}
use native.Mathlib.Omega.{arith}
use borrow.Author.Rules.{rules}
use lib.ListN.{length}
use Rattle.file_layout.specs.Tables.{lent_by}
use Rattle.clear_layout.proofs.Clearing.{left_are, inner}
use Rattle.answers.proofs.Exits.{ends_refused}
use Rattle.preview_entry.proofs.Exits.{preview_refused, counts_refused, counts_accepted}
use Rattle.preview_entry.proofs.preview_counts.Goals as goal

pub returns-in_err-cleared-clause-exit : goal.returns-in_err-cleared-clause-exit
returns-in_err-cleared-clause-exit c =
    let a = c.args in
    let n = lent_by a.tables.now (length a.scratch.now) (length a.counts.now) in
    let e = (c.in_err-cleared.ensures.cleared (length a.counts.now)).is in
    ends_refused _ _ c.from_residual.ensures.1 (preview_refused n a.«data».now _ e)

pub first_rows-spared-requires : goal.first_rows-spared-requires
first_rows-spared-requires c = let fits = (c.in_ok-cleared.ensures.cleared 0).is.leaves.fits in search rules

pub returns-then-lent-needed-clause-exit : goal.returns-then-lent-needed-clause-exit
returns-then-lent-needed-clause-exit c =
    let a = c.args in
    let n = lent_by a.tables.now (length a.scratch.now) (length a.counts.now) in
    let s = (c.in_ok-cleared.ensures.cleared (length a.counts.now)).is in
    let left = left_are s c.first_rows-spared.ensures in
    let needed = c.count_ranges-needed.ensures ∙ ap length left in
    record { is = sym (counts_refused n a.«data».now s.layout s.is (omega (arith, c.fill.auto)) needed c.if-lent-needed.true) }

pub put_counts-total-requires : goal.put_counts-total-requires
put_counts-total-requires c =
    let s = (c.in_ok-cleared.ensures.cleared 0).is in
    (inner s c.first_rows-spared.ensures, omega (arith, c.count_ranges-needed.ensures, c.if-lent-needed.false))

pub returns-clause-exit : goal.returns-clause-exit
returns-clause-exit c =
    let s = (c.in_ok-cleared.ensures.cleared (length c.args.counts.now)).is in
    let left = left_are s c.first_rows-spared.ensures in
    let needed = c.count_ranges-needed.ensures ∙ ap length left in
    let counted = rw (c.fill.ensures.after (λ y h. h), left) at c.put_counts-total.ensures in
    record { is = counts_accepted s needed (omega (arith, c.if-lent-needed.false, c.fill.auto)) counted }
