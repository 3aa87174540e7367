-- `text_range` meets its contract: the header's refusal, a text that is cut short, or all that stands behind the header.
use native.Mathlib.Omega.{arith}
use mathlib.Core.Path.{◌≡◌}
use Rattle.mdf4.specs.Act.{err, TX}
use Rattle.mdf4.specs.Kinds.{read_block}
use Rattle.blocks.proofs.Told.{refused_on}
use Rattle.blocks.proofs.Texts.{header_inside, range_refused, range_short, range_read}
use Rattle.blocks.proofs.text_block.text_range.Goals as goal

pub returns-in_err-header-clause-refused : goal.returns-in_err-header-clause-refused
returns-in_err-header-clause-refused c =
    let a = c.args in
    let h = rw c.requires at c.in_err-header.ensures in
    refused_on (λ e. read_block TX a.file.now a.offset ≡ err e) _ _ c.from_residual.ensures.1 (range_refused a.file.now a.offset h)

pub overflow_sub-actual : goal.overflow_sub-actual
overflow_sub-actual c =
    let h = rw c.requires at c.in_ok-header.ensures in
    omega (arith, header_inside c.args.file.now c.args.offset h)

pub returns-then-actual-expected-clause-refused : goal.returns-then-actual-expected-clause-refused
returns-then-actual-expected-clause-refused c =
    let h = rw c.requires at c.in_ok-header.ensures in
    range_short c.args.file.now c.args.offset h (rw c.requires at c.max-expected.ensures) (omega arith) (omega arith)

pub returns-clause-read : goal.returns-clause-read
returns-clause-read c =
    let h = rw c.requires at c.in_ok-header.ensures in
    rw c.requires (range_read c.args.file.now c.args.offset h (rw c.requires at c.max-expected.ensures) (omega arith))
