-- `Walk::index_of` meets its contract: the kinds that count, and those that do not.
use Rattle.mdf4.specs.Kinds.{shape, is}
use Rattle.walk_state.specs.Within.{indexed}
use Rattle.walk_state.proofs.Indexes.{uncounted}
use Rattle.walk_state.proofs.Walk.index_of.Goals as goal

pub returns-in-DG : goal.returns-in-DG
unfolding indexed is shape
returns-in-DG c = rw c.in-DG.is

pub returns-in-CG : goal.returns-in-CG
unfolding indexed is shape
returns-in-CG c = rw c.in-CG.is

pub returns-in-CN : goal.returns-in-CN
unfolding indexed is shape
returns-in-CN c = rw c.in-CN.is

pub returns-in_default : goal.returns-in_default
unfolding indexed
returns-in_default c =
    let d = c.in_default in
    let u = uncounted c.args.kind d.not-DG d.not-CG d.not-CN in
    rw (u.dg, u.cg, u.cn)
