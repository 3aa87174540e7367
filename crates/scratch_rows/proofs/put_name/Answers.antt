-- `put_name` meets its contract.
use Rattle.std.proofs.Common.{sym, ◌∙◌, arith}
use Rattle.scratch_rows.proofs.Filling.{pushes_no}
use Rattle.scratch_rows.proofs.NameCovers.{name_null, name_far, name_other, name_fits, name_cut}
use Rattle.scratch_rows.proofs.put_name.Goals as goal
use Rattle.scratch_rows.proofs.put_name.Goals.{then-target-eq0-via-then-target-eq0, then-target-eq0-via-else-target-eq0+then-len-lt-MIN_LEN}
use Rattle.scratch_rows.proofs.put_name.Goals.{then-target-eq0-via-else-target-eq0+else-len-lt-MIN_LEN+then-len-target}

pub returns-then-target-eq0-clause-pushed : goal.returns-then-target-eq0-clause-pushed
returns-then-target-eq0-clause-pushed c =
    let a = c.args in
    elim c.then-target-eq0.branch [
      | then-target-eq0-via-then-target-eq0 w ↦ pushes_no _ (name_null a.file.now a.target w.if-target-eq0.true)
      | then-target-eq0-via-else-target-eq0+then-len-lt-MIN_LEN w ↦ pushes_no _ (name_far a.file.now a.target (omega arith))
      | then-target-eq0-via-else-target-eq0+else-len-lt-MIN_LEN+then-len-target w ↦ pushes_no _ (name_far a.file.now a.target (omega arith))
    ]

pub returns-then-read_u32-ne-ID-clause-pushed : goal.returns-then-read_u32-ne-ID-clause-pushed
returns-then-read_u32-ne-ID-clause-pushed c =
    let a = c.args in
    pushes_no _ (name_other a.file.now a.target c.if-target-eq0.false (omega arith) (λ e. c.if-read_u32-ne-ID.true (c.read_u32.ensures ∙ e)))

pub returns-then-len-target-2-clause-pushed : goal.returns-then-len-target-2-clause-pushed
returns-then-len-target-2-clause-pushed c =
    let a = c.args in
    let mark = sym c.read_u32.ensures ∙ c.if-read_u32-ne-ID.false in
    rw (name_cut a.file.now a.target c.if-target-eq0.false (omega arith) mark {x = c.max-size.result} (omega arith) (omega arith))
    c.push.ensures.pushed

pub returns-else-len-target-2-clause-pushed : goal.returns-else-len-target-2-clause-pushed
returns-else-len-target-2-clause-pushed c =
    let a = c.args in
    let mark = sym c.read_u32.ensures ∙ c.if-read_u32-ne-ID.false in
    rw (name_fits a.file.now a.target c.if-target-eq0.false (omega arith) mark {x = c.max-size.result} (omega arith) (omega arith))
    c.push-else-len-target-2.ensures.pushed
