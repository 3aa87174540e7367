-- `IdentificationBlock::parse` meets its contract: each refusal in the definition's order, or the block.
use native.Mathlib.Omega.{arith}
use mathlib.Core.Path.{◌∙◌}
use Rattle.blocks.specs.IdentificationBlock.{identified}
use Rattle.blocks.proofs.Told.{told_as_on}
use Rattle.blocks.proofs.Identification.{ident_short, ident_other, ident_refused, ident_read}
use Rattle.blocks.proofs.identification_block.IdentificationBlock.parse.Goals as goal

pub returns-then-len-lt-MIN_LEN-clause-says : goal.returns-then-len-lt-MIN_LEN-clause-says
returns-then-len-lt-MIN_LEN-clause-says c = ident_short c.args.file.now (omega arith)

pub returns-then-read_u64-ne-FILE_IDENTIFIER-clause-says : goal.returns-then-read_u64-ne-FILE_IDENTIFIER-clause-says
returns-then-read_u64-ne-FILE_IDENTIFIER-clause-says c =
    ident_other c.args.file.now (omega arith) (λ e. c.if-read_u64-ne-FILE_IDENTIFIER.true (c.read_u64.ensures ∙ e))

pub returns-in_err-parse_block_version-clause-says : goal.returns-in_err-parse_block_version-clause-says
returns-in_err-parse_block_version-clause-says c =
    told_as_on identified _ _ c.from_residual.ensures.1 ∙ ident_refused c.args.file.now (omega arith) (omega arith) c.in_err-parse_block_version.ensures

pub returns-clause-says : goal.returns-clause-says
returns-clause-says c =
    ident_read c.args.file.now (omega arith) (omega arith) c.in_ok-parse_block_version.ensures c.fields.ensures.says
