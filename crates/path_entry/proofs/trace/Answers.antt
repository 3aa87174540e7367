-- `trace` meets its contract: the walk refuses, or the path fits or not. Assumes nothing.
use mathlib.Core.Path.{sym}
use native.Mathlib.Omega.{arith}
use lib.ListN.{length}
use Rattle.file_layout.specs.Tables.{lent_by}
use Rattle.file_layout.proofs.Standing.{laid_refused, shows_rows}
use Rattle.answers.proofs.Exits.{ends_refused}
use Rattle.path_entry.proofs.Exits.{path_refused, path_long, still_zeros, rows_rise, path_accepted}
use Rattle.path_entry.proofs.trace.Goals as goal

pub returns-in_err-rows-clause-exit : goal.returns-in_err-rows-clause-exit
returns-in_err-rows-clause-exit c =
    let n = lent_by c.args.tables.now 0 (length c.args.path.now) in
    ends_refused _ _ c.from_residual.ensures.1
    (path_refused c.args.offset n c.args.«data».now _ (laid_refused {n = n} (c.in_err-rows.ensures.laid 0 (length c.args.path.now))))

pub block_rows-requires : goal.block_rows-requires
block_rows-requires c = (c.in_ok-rows.ensures.laid 0 0).is.blocks_fit

pub put_path-needed-requires : goal.put_path-needed-requires
put_path-needed-requires c = rows_rise (c.in_ok-rows.ensures.laid 0 0).is c.block_rows.ensures

pub returns-then-lent-needed-clause-exit : goal.returns-then-lent-needed-clause-exit
returns-then-lent-needed-clause-exit c =
    let a = c.args in
    let n = lent_by a.tables.now 0 (length a.path.now) in
    let s = (c.in_ok-rows.ensures.laid 0 (length a.path.now)).is in
    let w = c.put_path-needed.ensures s.layout (shows_rows s c.block_rows.ensures) in
    record { is = sym (path_long a.offset n a.«data».now s.layout s.is (omega arith) w.words c.if-lent-needed.true) }

pub returns-then-lent-needed-clause-refused : goal.returns-then-lent-needed-clause-refused
returns-then-lent-needed-clause-refused c =
    let s = (c.in_ok-rows.ensures.laid 0 (length c.args.path.now)).is in
    let w = rw (c.fill.ensures.after (λ y h. h)) at (c.put_path-needed.ensures s.layout (shows_rows s c.block_rows.ensures)) in
    still_zeros w (omega arith)

pub returns-clause-exit : goal.returns-clause-exit
returns-clause-exit c =
    let s = (c.in_ok-rows.ensures.laid 0 (length c.args.path.now)).is in
    let w = rw (c.fill.ensures.after (λ y h. h)) at (c.put_path-needed.ensures s.layout (shows_rows s c.block_rows.ensures)) in
    record { is = path_accepted s c.args.offset w (omega arith) }
