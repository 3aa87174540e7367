-- `record_unknown_block` meets its contract: seen, not marked, too short, or listed.
use Rattle.std.proofs.Common.{refl, ℕ, ◌+◌, ◌<◌, length, arith}
use borrow.Author.Tests.{le-leb, lt-leb}
use Rattle.mdf4.specs.Act.{UD}
use Rattle.mdf4.specs.Kinds.{no_records}
use Rattle.mdf4.specs.Walk.{record_unknown_block}
use Rattle.walk_blocks.specs.Regions.{list_header}
use Rattle.walk_state.proofs.Steps.{handed, yes, no, measured, done, once_halt, once_old, once_new}
use Rattle.walk_blocks.proofs.DataBlocks.{data_unknown}
use Rattle.walk_blocks.proofs.regions.record_unknown_block.Goals.{then-len-lt-MIN_LEN-via-then-len-lt-MIN_LEN}
use Rattle.walk_blocks.proofs.regions.record_unknown_block.Goals.{then-len-lt-MIN_LEN-via-else-len-lt-MIN_LEN+then-len-addr}
use Rattle.walk_blocks.proofs.regions.record_unknown_block.Goals as goal

pub returns-in_err-mark : goal.returns-in_err-mark
unfolding record_unknown_block
returns-in_err-mark c = handed _ c.from_residual.ensures.1 (once_halt UD _ _ _ (c.in_err-mark.ensures UD))

pub returns-then-not-branch : goal.returns-then-not-branch
unfolding record_unknown_block
returns-then-not-branch c = once_old UD _ _ _ c.if-not-branch.true (c.in_ok-mark.ensures UD) refl

pub returns-then-len-lt-MIN_LEN : goal.returns-then-len-lt-MIN_LEN
unfolding record_unknown_block
returns-then-len-lt-MIN_LEN c =
    let n : ℕ = length c.mark.new.self.file.now in
    let short : n < c.args.addr + 24 = elim c.then-len-lt-MIN_LEN.branch [
      | then-len-lt-MIN_LEN-via-then-len-lt-MIN_LEN w ↦ omega arith
      | then-len-lt-MIN_LEN-via-else-len-lt-MIN_LEN+then-len-addr w ↦ omega arith
    ] in
    once_new UD _ _ _ c.if-not-branch.false (c.in_ok-mark.ensures UD) (measured _ (no _ (lt-leb (c.args.addr + 24) n short) (done refl)))

pub returns : goal.returns
unfolding record_unknown_block list_header
returns c =
    once_new UD _ _ _ c.if-not-branch.false (c.in_ok-mark.ensures UD)
    (measured _
    (yes _ (le-leb (c.args.addr + 24) (length c.mark.new.self.file.now) (omega arith))
    (c.list_header.ensures (no_records 0) (data_unknown _ c.default.ensures))))
