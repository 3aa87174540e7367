-- `put_prefix` meets its contract. The invariant: the bars passed are written.
use Rattle.std.proofs.Common.{◌≡◌, take}
use Rattle.std.proofs.Math.Seq.{take_all}
use Rattle.to_tree.proofs.Lines.{no_bars, then_bar}
use Rattle.to_tree.proofs.line.put_prefix.Goals as goal

pub loop-last-init : goal.loop-last-init
loop-last-init c = no_bars _

pub loop-last-preserved : goal.loop-last-preserved
loop-last-preserved c = then_bar c.args.bars.now c.loop-last.last-index c.loop-last-test.true c.loop-last.invariant c.put_bar.ensures

pub returns : goal.returns
returns c =
    let all : take c.loop-last.last-index c.args.bars.now ≡ c.args.bars.now = take_all _ c.args.bars.now c.loop-last-test.false in
    rw all at c.loop-last.invariant
