-- `list` meets its contract: the walk refuses, or the text fits or not. Assumes nothing.
use mathlib.Core.List.{[]}
use native.Mathlib.Omega.{arith}
use lib.ListN.{length}
use Rattle.mdf4.specs.Listing.{to_text}
use Rattle.file_layout.specs.Tables.{lent_by}
use Rattle.file_layout.proofs.Standing.{laid_refused, printable, shows}
use Rattle.answers.proofs.Exits.{from_zeros, ends_refused}
use Rattle.block_layout.proofs.Exits.{text_refused, text_made}
use Rattle.block_layout.proofs.list.Goals as goal

pub returns-in_err-rows-clause-exit : goal.returns-in_err-rows-clause-exit
returns-in_err-rows-clause-exit c =
    let n = lent_by c.args.tables.now 0 (length c.args.out.now) in
    ends_refused _ _ c.from_residual.ensures.1
    (text_refused n c.args.«data».now _ (laid_refused {n = n} (c.in_err-rows.ensures.laid 0 (length c.args.out.now))))

pub block_rows-blocks-requires : goal.block_rows-blocks-requires
block_rows-blocks-requires c = (c.in_ok-rows.ensures.laid 0 0).is.blocks_fit

pub link_rows-links-requires : goal.link_rows-links-requires
link_rows-links-requires c = (c.in_ok-rows.ensures.laid 0 0).is.links_fit

pub gap_rows-gaps-requires : goal.gap_rows-gaps-requires
gap_rows-gaps-requires c = (c.in_ok-rows.ensures.laid 0 0).is.gaps_fit

pub put_text-bytes-requires : goal.put_text-bytes-requires
put_text-bytes-requires c =
    printable (c.in_ok-rows.ensures.laid 0 0).is c.block_rows-blocks.ensures c.link_rows-links.ensures

pub returns-clause-exit : goal.returns-clause-exit
returns-clause-exit c =
    let a = c.args in
    let n = lent_by a.tables.now 0 (length a.out.now) in
    let s = (c.in_ok-rows.ensures.laid 0 (length a.out.now)).is in
    let shown = shows s c.block_rows-blocks.ensures c.link_rows-links.ensures c.gap_rows-gaps.ensures in
    let w = from_zeros (length a.out.now) (c.fill.ensures.after (λ y h. h)) (c.put_text-bytes.ensures s.layout shown) in
    rw (text_made n a.«data».now s.layout s.is)
    (c.fit.ensures.exit n s.layout [] (to_text a.«data».now s.layout) _ s.fills (omega arith) w)
