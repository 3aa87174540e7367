-- `LentTables::lay` meets its contract: the walk refuses, or the gaps are laid. Assumes nothing.
use mathlib.Core.Path.{refl}
use Rattle.file_layout.proofs.Laying.{walk_handed, joined}
use Rattle.file_layout.proofs.LentTables.lay.Goals as goal

pub lay_gaps-requires : goal.lay_gaps-requires
lay_gaps-requires c = (c.in_ok-w.ensures.walked 0 0).is.within.rows.fits

pub returns-in_err-w-clause-laid : goal.returns-in_err-w-clause-laid
returns-in_err-w-clause-laid c scratch out = walk_handed c.from_residual.ensures.1 (c.in_err-w.ensures.walked scratch out)

pub returns-clause-laid : goal.returns-clause-laid
returns-clause-laid c scratch out = c.lay_gaps.ensures.laid _ _ _ _ refl (joined _) c.lay_gaps.ensures.others (c.in_ok-w.ensures.walked scratch out).is
