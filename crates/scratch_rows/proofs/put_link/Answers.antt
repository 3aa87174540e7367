-- `put_link` meets its contract.
use Rattle.std.proofs.Common.{sym, ◌∙◌, arith}
use Rattle.scratch_rows.proofs.Filling.{pushes_no, target_null, target_far, target_four, block_whole, block_pushed}
use Rattle.scratch_rows.proofs.put_link.Goals as goal
use Rattle.scratch_rows.proofs.put_link.Goals.{then-target-eq0-via-then-target-eq0, then-target-eq0-via-else-target-eq0+then-len-lt4}
use Rattle.scratch_rows.proofs.put_link.Goals.{then-target-eq0-via-else-target-eq0+else-len-lt4+then-len-target}

pub returns-then-target-eq0-clause-pushed : goal.returns-then-target-eq0-clause-pushed
returns-then-target-eq0-clause-pushed c =
    let a = c.args in
    elim c.then-target-eq0.branch [
      | then-target-eq0-via-then-target-eq0 w ↦ pushes_no _ (target_null a.file.now a.target w.if-target-eq0.true)
      | then-target-eq0-via-else-target-eq0+then-len-lt4 w ↦ pushes_no _ (target_far a.file.now a.target (omega arith))
      | then-target-eq0-via-else-target-eq0+else-len-lt4+then-len-target w ↦ pushes_no _ (target_far a.file.now a.target (omega arith))
    ]

pub linked_end-requires : goal.linked_end-requires
linked_end-requires c = block_whole c.args.file.now c.args.target (sym c.if-leads_to_block.true ∙ c.leads_to_block.ensures)

pub returns-then-leads_to_block-clause-pushed : goal.returns-then-leads_to_block-clause-pushed
returns-then-leads_to_block-clause-pushed c =
    let leads = sym c.if-leads_to_block.true ∙ c.leads_to_block.ensures in
    block_pushed c.args.file.now c.args.target leads c.linked_end.ensures c.push.ensures.pushed c.push-then-leads_to_block.ensures.pushed

pub returns-else-leads_to_block-clause-pushed : goal.returns-else-leads_to_block-clause-pushed
returns-else-leads_to_block-clause-pushed c =
    let a = c.args in
    let four = target_four a.file.now a.target c.if-target-eq0.false (omega arith) (sym c.if-leads_to_block.false ∙ c.leads_to_block.ensures) in
    rw four c.push-else-leads_to_block.ensures.pushed
