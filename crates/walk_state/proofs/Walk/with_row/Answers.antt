-- `Walk::with_row` meets its contract: the kinds that count, and those that do not.
use Rattle.std.proofs.Common.{arith}
use Rattle.mdf4.specs.Bytes.{bit}
use Rattle.mdf4.specs.Kinds.{shape, is}
use Rattle.walk_state.proofs.Indexes.{uncounted, listed_is}
use Rattle.walk_state.proofs.Walk.with_row.Goals as goal

pub returns-in-DG : goal.returns-in-DG
unfolding is shape bit
returns-in-DG c = rw c.in-DG.is (listed_is _ _ (omega arith) (omega arith) (omega arith))

pub returns-in-CG : goal.returns-in-CG
unfolding is shape bit
returns-in-CG c = rw c.in-CG.is (listed_is _ _ (omega arith) (omega arith) (omega arith))

pub returns-in-CN : goal.returns-in-CN
unfolding is shape bit
returns-in-CN c = rw c.in-CN.is (listed_is _ _ (omega arith) (omega arith) (omega arith))

pub returns-in_default : goal.returns-in_default
unfolding bit
returns-in_default c =
    let d = c.in_default in
    let u = uncounted c.args.kind d.not-DG d.not-CG d.not-CN in
    listed_is _ _ (rw u.dg (omega arith)) (rw u.cg (omega arith)) (rw u.cn (omega arith))
