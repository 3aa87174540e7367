-- `LentTables::walk_file` meets its contract: zeroed tables, then the walk. Assumes nothing.
use Rattle.std.proofs.Common.{refl, rules}
use Rattle.file_layout.proofs.Laying.{within_zeroed, walk_met, walk_stopped}
use Rattle.file_layout.proofs.LentTables.walk_file.Goals as goal

pub invariant_of-walker : goal.invariant_of-walker
invariant_of-walker c = record { within = within_zeroed c.zero.ensures.zeroed c.default.ensures }

pub returns-in_err-walk-clause-walked : goal.returns-in_err-walk-clause-walked
returns-in_err-walk-clause-walked c scratch out =
    walk_stopped c.zero.ensures.zeroed c.default.ensures scratch out refl c.from_residual.ensures.1 c.in_err-walk.ensures

pub returns-clause-walked : goal.returns-clause-walked
returns-clause-walked c scratch out =
    walk_met c.zero.ensures.zeroed c.default.ensures scratch out refl c.in_ok-walk.ensures
    (search rules) (search rules) (search rules) refl refl refl refl
