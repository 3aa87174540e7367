-- `lay_clear` meets its contract: the layout is refused, the scratch table is too short, or both stand.
use lib.ListN.{length}
use Rattle.file_layout.specs.Tables.{lent_by}
use Rattle.file_layout.proofs.Standing.{finalized_laid, printable, shows_rows, shows_links, inv, is_layout}
use Rattle.clear_layout.proofs.Clearing.{first_refused, spared_refused, spared_is, refused_handed}
use Rattle.clear_layout.proofs.lay_clear.Goals as goal

pub returns-in_err-rows-clause-cleared : goal.returns-in_err-rows-clause-cleared
returns-in_err-rows-clause-cleared c out =
    refused_handed _ _ c.from_residual.ensures.1 (first_refused _ (c.in_err-rows.ensures.laid (length c.args.scratch.now) out))

pub block_rows-blocks-requires : goal.block_rows-blocks-requires
block_rows-blocks-requires c = (c.in_ok-rows.ensures.laid 0 0).is.blocks_fit

pub link_rows-links-requires : goal.link_rows-links-requires
link_rows-links-requires c = (c.in_ok-rows.ensures.laid 0 0).is.links_fit

pub sort_spared-requires : goal.sort_spared-requires
sort_spared-requires c =
    printable (c.in_ok-rows.ensures.laid 0 0).is c.block_rows-blocks.ensures c.link_rows-links.ensures

pub returns-in_err-spared-clause-cleared : goal.returns-in_err-spared-clause-cleared
returns-in_err-spared-clause-cleared c out =
    let n = lent_by c.args.tables.now (length c.args.scratch.now) out in
    let r = c.args.«data».now in
    let s = (c.in_ok-rows.ensures.laid (length c.args.scratch.now) out).is in
    let m = c.in_err-spared.ensures s.layout (shows_rows s c.block_rows-blocks.ensures) (shows_links s c.link_rows-links.ensures)
    (inv n r s.layout s.is) (is_layout n r s.layout s.is) in
    refused_handed _ _ c.from_residual-in_err-spared.ensures.1 (spared_refused n (finalized_laid s) m)

pub returns-clause-cleared : goal.returns-clause-cleared
returns-clause-cleared c out =
    let n = lent_by c.args.tables.now (length c.args.scratch.now) out in
    let r = c.args.«data».now in
    let s = (c.in_ok-rows.ensures.laid (length c.args.scratch.now) out).is in
    let m = c.in_ok-spared.ensures s.layout (shows_rows s c.block_rows-blocks.ensures) (shows_links s c.link_rows-links.ensures)
    (inv n r s.layout s.is) (is_layout n r s.layout s.is) in
    record { is = record { layout = s.layout; is = spared_is n (finalized_laid s) m; fills = s.fills; leaves = m.says.1 } }
