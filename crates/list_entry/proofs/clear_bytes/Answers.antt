-- `clear_bytes` meets its contract: what precedes the list refuses, or its bytes fit or not. Assumes nothing.
use mathlib.Core.List.{[]}
use native.Mathlib.Omega.{arith}
use borrow.Author.Rules.{rules}
use lib.ListN.{length}
use Rattle.file_layout.specs.Tables.{lent_by}
use Rattle.mdf4.specs.Clear.{clr_bytes, clear_ranges}
use Rattle.clear_layout.proofs.Clearing.{left_are}
use Rattle.answers.proofs.Exits.{from_zeros, ends_refused}
use Rattle.list_entry.proofs.Exits.{clear_list_refused, clear_list_made_of}
use Rattle.list_entry.proofs.clear_bytes.Goals as goal

pub returns-in_err-cleared-clause-exit : goal.returns-in_err-cleared-clause-exit
returns-in_err-cleared-clause-exit c =
    let a = c.args in
    let n = lent_by a.tables.now (length a.scratch.now) (length a.out.now) in
    let e = (c.in_err-cleared.ensures.cleared (length a.out.now)).is in
    ends_refused _ _ c.from_residual.ensures.1 (clear_list_refused n a.«data».now _ e)

pub first_rows-spared-requires : goal.first_rows-spared-requires
first_rows-spared-requires c = let fits = (c.in_ok-cleared.ensures.cleared 0).is.leaves.fits in search rules

pub returns-clause-exit : goal.returns-clause-exit
returns-clause-exit c =
    let a = c.args in
    let n = lent_by a.tables.now (length a.scratch.now) (length a.out.now) in
    let r = a.«data».now in
    let s = (c.in_ok-cleared.ensures.cleared (length a.out.now)).is in
    let wrote = rw (left_are s c.first_rows-spared.ensures) at c.put_clr-bytes.ensures in
    let w = from_zeros (length a.out.now) (c.fill.ensures.after (λ y h. h)) wrote in
    rw (clear_list_made_of n r s.layout s.is)
    (c.fit.ensures.exit n s.layout [] (clr_bytes (length r) (clear_ranges r s.layout)) _ s.fills (omega arith) w)
