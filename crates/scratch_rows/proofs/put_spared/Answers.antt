-- `put_spared` meets its contract. The invariant: the ranges of the rows passed are pushed.
use Rattle.std.proofs.Common.{◌≡◌, ◌∙◌, take, arith, rules}
use Rattle.std.proofs.Math.Seq.{take_all}
use Rattle.tables.specs.Rows.{row_of_words}
use Rattle.scratch_rows.proofs.Filling.{start, turn, all_pushed}
use Rattle.scratch_rows.proofs.put_spared.Goals as goal

pub loop-row-init : goal.loop-row-init
loop-row-init c = (start _ _, omega arith)

pub put_block-requires : goal.put_block-requires
put_block-requires c = (omega (arith, c.new-table.ensures.count), rw c.load.ensures (c.requires c.loop-row.row-index c.loop-row-test.true))

pub loop-row-preserved : goal.loop-row-preserved
loop-row-preserved c =
    let pushed = rw c.load.ensures at c.put_block.ensures.pushed in
    let rows = turn _ row_of_words c.args.blocks.now c.loop-row.row-index _ c.loop-row-test.true c.loop-row.invariant.0 pushed in
    (rows, omega (arith, c.put_block.ensures.count))

pub returns-clause-pushed : goal.returns-clause-pushed
returns-clause-pushed c =
    let a = c.args in
    let made = c.new-table.ensures in
    let blocks : take c.loop-row.row-index a.blocks.now ≡ a.blocks.now = take_all _ _ c.loop-row-test.false in
    let rows = rw blocks at c.loop-row.invariant.0 in
    let targets = c.put_links.ensures.pushed in
    let name = targets.same_reference ∙ rows.same_reference ∙ made.same_reference in
    let pushed = all_pushed a.file.now _ _ made.words made.count rows targets in
    search rules
