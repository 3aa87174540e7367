-- `put_rows` meets its contract. The invariant: the rows passed are written.
use Rattle.std.proofs.Common.{◌≡◌, take}
use Rattle.std.proofs.Math.Seq.{take_all}
use Rattle.to_text.proofs.Lines.{start, turn}
use Rattle.to_text.proofs.put_rows.Goals as goal

pub loop-row-init : goal.loop-row-init
loop-row-init c = start _ _

pub put_row-requires : goal.put_row-requires
put_row-requires c = rw c.load.ensures (c.requires c.loop-row.row-index c.loop-row-test.true)

pub loop-row-preserved : goal.loop-row-preserved
loop-row-preserved c =
    let lines = rw c.load.ensures at c.put_row.ensures in
    turn _ _ c.args.blocks.now c.loop-row.row-index _ c.loop-row-test.true c.loop-row.invariant lines

pub returns : goal.returns
returns c =
    let all : take c.loop-row.row-index c.args.blocks.now ≡ c.args.blocks.now = take_all _ _ c.loop-row-test.false in
    rw all at c.loop-row.invariant
