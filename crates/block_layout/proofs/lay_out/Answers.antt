-- `lay_out` meets its contract: the layout stands in the tables, or it is refused. Assumes nothing.
use mathlib.Core.Path.{refl}
use Rattle.file_layout.specs.Tables.{lent_by}
use Rattle.file_layout.proofs.Standing.{laid_refused}
use Rattle.answers.proofs.Exits.{ends_refused}
use Rattle.block_layout.proofs.Exits.{layout_accepted, layout_refused}
use Rattle.block_layout.proofs.lay_out.Goals as goal

pub returns-in_err-rows-clause-exit : goal.returns-in_err-rows-clause-exit
returns-in_err-rows-clause-exit c =
    let n = lent_by c.args.tables.now 0 0 in
    ends_refused _ _ c.from_residual.ensures.1 (layout_refused n c.args.«data».now _ (laid_refused {n = n} (c.in_err-rows.ensures.laid 0 0)))

pub returns-clause-exit : goal.returns-clause-exit
returns-clause-exit c = record { is = layout_accepted refl (c.in_ok-rows.ensures.laid 0 0).is }
