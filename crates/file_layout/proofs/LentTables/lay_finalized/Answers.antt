-- `LentTables::lay_finalized` meets its contract: the walk refuses, a flag is set, or the gaps are laid. Assumes nothing.
use mathlib.Core.Path.{refl, sym}
use Rattle.file_layout.proofs.Laying.{walk_handed, identified, asked_handed, granted, joined}
use Rattle.file_layout.proofs.LentTables.lay_finalized.Goals as goal

pub returns-in_err-w-clause-laid : goal.returns-in_err-w-clause-laid
returns-in_err-w-clause-laid c scratch out = walk_handed c.from_residual.ensures.1 (c.in_err-w.ensures.walked scratch out)

pub check_finalized-requires : goal.check_finalized-requires
check_finalized-requires c = identified (c.in_ok-w.ensures.walked 0 0).is

pub returns-in_err-check_finalized-clause-laid : goal.returns-in_err-check_finalized-clause-laid
returns-in_err-check_finalized-clause-laid c scratch out =
    asked_handed (c.in_ok-w.ensures.walked scratch out).is _ c.from_residual-in_err-check_finalized.ensures.1 c.in_err-check_finalized.ensures

pub lay_gaps-requires : goal.lay_gaps-requires
lay_gaps-requires c = (c.in_ok-w.ensures.walked 0 0).is.within.rows.fits

pub returns-clause-laid : goal.returns-clause-laid
returns-clause-laid c scratch out =
    granted (sym c.in_ok-check_finalized.ensures) (c.lay_gaps.ensures.laid _ _ _ _ refl (joined _) c.lay_gaps.ensures.others (c.in_ok-w.ensures.walked scratch out).is)
