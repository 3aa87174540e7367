-- `draw` meets its contract: the walk or a line too deep refuses, or the text fits or not. Assumes nothing.
use mathlib.Core.Path.{refl, ◌∙◌}
use native.Mathlib.Omega.{arith}
use borrow.Author.Rules.{rules}
use lib.ListN.{length}
use Rattle.file_layout.specs.Tables.{lent_by}
use Rattle.file_layout.proofs.Standing.{laid_refused, printable}
use Rattle.answers.proofs.Exits.{from_zeros, ends_refused}
use Rattle.block_layout.proofs.Exits.{tree_laid_refused, tree_refused, tree_made}
use Rattle.block_layout.proofs.Standing.{spare, holds, refilled}
use Rattle.block_layout.proofs.draw.Goals as goal

pub returns-in_err-rows-clause-exit : goal.returns-in_err-rows-clause-exit
returns-in_err-rows-clause-exit c =
    let n = lent_by c.args.tables.now 0 (length c.args.out.now) in
    ends_refused _ _ c.from_residual.ensures.1
    (tree_laid_refused n c.args.«data».now _ (laid_refused {n = n} (c.in_err-rows.ensures.laid 0 (length c.args.out.now))))

pub first_rows-links-requires : goal.first_rows-links-requires
first_rows-links-requires c = let fits = (c.in_ok-rows.ensures.laid 0 0).is.links_fit in search rules

pub put_tree-requires : goal.put_tree-requires
put_tree-requires c =
    let s = (c.in_ok-rows.ensures.laid 0 0).is in
    (s.blocks_fit, printable s refl c.first_rows-links.ensures)

pub returns-in_err-bytes-clause-exit : goal.returns-in_err-bytes-clause-exit
returns-in_err-bytes-clause-exit c =
    let a = c.args in
    let n = lent_by a.tables.now 0 (length a.out.now) in
    let s = (c.in_ok-rows.ensures.laid 0 (length a.out.now)).is in
    let m = c.in_err-bytes.ensures s.layout (spare s) (holds s c.first_rows-links.ensures) in
    ends_refused _ _ c.from_residual-in_err-bytes.ensures.1 (tree_refused n a.«data».now s.layout _ s.is m.is)

pub returns-clause-exit : goal.returns-clause-exit
returns-clause-exit c =
    let a = c.args in
    let n = lent_by a.tables.now 0 (length a.out.now) in
    let s = (c.in_ok-rows.ensures.laid 0 (length a.out.now)).is in
    let m = c.in_ok-bytes.ensures s.layout (spare s) (holds s c.first_rows-links.ensures) in
    let w = from_zeros (length a.out.now) (c.fill.ensures.after (λ y h. h)) m.wrote in
    let b = c.put_tree.auto.blocks ∙ c.in_ok-rows.ensures.keeps.blocks_long in
    rw (tree_made n a.«data».now s.layout m.text m.printed s.is m.is)
    (c.fit.ensures.exit n s.layout m.printed m.text _ (refilled s m.printed refl refl refl b m.rows) (omega arith) w)
