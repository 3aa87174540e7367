-- `leads_to_block` meets its contract.
use Rattle.std.proofs.Common.{◌∙◌, ap, ℕ, ◌%◌, arith}
use lib.Dec.{eqb}
use borrow.Author.Tests.{lt-leb}
use Rattle.scratch_rows.proofs.Filling.{block_short, block_marked}
use Rattle.scratch_rows.proofs.leads_to_block.Goals as goal

pub returns-then-file-target-ge-LEN : goal.returns-then-file-target-ge-LEN
returns-then-file-target-ge-LEN c =
    block_marked c.args.file.now c.args.target c.requires.0 c.requires.1 (omega arith) (ap (λ (m : ℕ). eqb (m % 65536) 0x2323) c.read_u32.ensures)

pub returns-else-file-target-ge-LEN : goal.returns-else-file-target-ge-LEN
returns-else-file-target-ge-LEN c = lt-leb 24 _ c.if-file-target-ge-LEN.false ∙ block_short c.args.file.now c.args.target (omega arith)
