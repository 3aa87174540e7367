-- `fill_path` meets its contract. The invariant: the words passed are stored, the last ones.
use Rattle.std.proofs.Common.{◌≡◌, ◌+◌, ◌-◌, arith}
use Rattle.to_path.proofs.Going.{store_more, store_all}
use Rattle.to_path.proofs.fill_path.Goals as goal

pub loop-i-preserved : goal.loop-i-preserved
loop-i-preserved c =
    let e : c.loop-i.i ≡ c.loop-i.i - 1 + 1 = omega arith in
    store_more (rw e at c.loop-i.invariant) c.from_block-at.ensures

pub returns : goal.returns
returns c = store_all c.loop-i.invariant (omega arith)
