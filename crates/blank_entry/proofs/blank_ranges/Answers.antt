-- `blank_ranges` meets its contract: the clear bytes are zeroed, or nothing is. Assumes nothing.
use mathlib.Core.Path.{refl, sym, ◌∙◌}
use borrow.Author.Rules.{rules}
use lib.ListN.{length}
use Rattle.file_layout.specs.Tables.{lent_by}
use Rattle.clear_layout.proofs.Clearing.{left_are, inner}
use Rattle.answers.proofs.Exits.{ends_refused}
use Rattle.blank_entry.proofs.Exits.{blank_accepted, blank_zeroed, blank_refused, blank_untouched}
use Rattle.blank_entry.proofs.blank_ranges.Goals as goal

pub returns-in_err-cleared-clause-exit : goal.returns-in_err-cleared-clause-exit
returns-in_err-cleared-clause-exit c =
    let n = lent_by c.args.tables.now (length c.args.scratch.now) 0 in
    ends_refused _ _ c.from_residual.ensures.1 (blank_refused n c.args.«data».now _ (c.in_err-cleared.ensures.cleared 0).is)

pub returns-in_err-cleared-clause-recording : goal.returns-in_err-cleared-clause-recording
returns-in_err-cleared-clause-recording c =
    let n = lent_by c.args.tables.now (length c.args.scratch.now) 0 in
    sym (blank_untouched n c.args.«data».now _ (c.in_err-cleared.ensures.cleared 0).is)

pub first_rows-spared-requires : goal.first_rows-spared-requires
first_rows-spared-requires c = let fits = (c.in_ok-cleared.ensures.cleared 0).is.leaves.fits in search rules

pub zero_ranges-requires : goal.zero_ranges-requires
zero_ranges-requires c = inner (c.in_ok-cleared.ensures.cleared 0).is c.first_rows-spared.ensures

pub returns-clause-exit : goal.returns-clause-exit
returns-clause-exit c = record { is = blank_accepted (c.in_ok-cleared.ensures.cleared 0).is refl }

pub returns-clause-recording : goal.returns-clause-recording
returns-clause-recording c =
    let n = lent_by c.args.tables.now (length c.args.scratch.now) 0 in
    let s = (c.in_ok-cleared.ensures.cleared 0).is in
    rw (left_are s c.first_rows-spared.ensures) at c.zero_ranges.ensures ∙ sym (blank_zeroed n c.args.«data».now s.layout s.is)
