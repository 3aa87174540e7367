-- `put_links` meets its contract. The invariant: the ranges of the links passed are pushed.
use Rattle.std.proofs.Common.{◌≡◌, take, arith}
use Rattle.std.proofs.Math.Seq.{take_all}
use Rattle.tables.specs.Rows.{link_of_words}
use Rattle.scratch_rows.specs.Covers.{link_cover}
use Rattle.scratch_rows.proofs.Filling.{start, turn}
use Rattle.scratch_rows.proofs.put_links.Goals as goal

pub loop-target-init : goal.loop-target-init
loop-target-init c = (start _ _, omega arith)

pub loop-target-preserved : goal.loop-target-preserved
unfolding link_cover link_of_words
loop-target-preserved c =
    let l = c.loop-target in
    let pushed = c.put_link.ensures.pushed in
    let targets = turn (link_cover c.args.file.now) link_of_words c.args.links.now l.target-index _ c.loop-target-test.true l.invariant.0 pushed in
    (targets, omega (arith, c.put_link.ensures.count))

pub returns-clause-pushed : goal.returns-clause-pushed
returns-clause-pushed c =
    let links : take c.loop-target.target-index c.args.links.now ≡ c.args.links.now = take_all _ _ c.loop-target-test.false in
    rw links at c.loop-target.invariant.0
