-- `put_records` meets its contract: a record size that is not 0 divides the payload.
use Rattle.fmt.proofs.Text.{writes_then}
use Rattle.describe.proofs.Written.{writes_as}
use Rattle.std.proofs.Common.{◌≡◌, true, ltb, arith}
use Rattle.std.proofs.lemmas.Bool.Decides.{nat_tests}
use Rattle.mdf4.specs.Describe.{records, payload}
use Rattle.tables.specs.Rows.{row_of}
use Rattle.describe.proofs.extras.put_records.Goals as goal

pub returns-then-block-eq0 : goal.returns-then-block-eq0
unfolding records payload row_of
returns-then-block-eq0 c = rw c.if-block-eq0.true (writes_as c.put_format.ensures (cc))

pub returns : goal.returns
unfolding records payload row_of
returns c =
    let some : ltb 0 c.args.block.now.record_size ≡ true = grind (arith, nat_tests) in
    rw (some, ← c.payload_len-payload.ensures) (writes_then c.put_format-2.ensures c.put_trailing.ensures)
