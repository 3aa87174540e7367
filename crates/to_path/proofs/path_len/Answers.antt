-- `path_len` meets its contract. The invariant: the links passed are counted.
use Rattle.to_path.proofs.Going.{count_header, count_all, count_more}
use Rattle.to_path.proofs.path_len.Goals as goal

pub returns-then-at-eq-OFFSET : goal.returns-then-at-eq-OFFSET
returns-then-at-eq-OFFSET c = count_header c.loop-links.invariant c.if-at-eq-OFFSET.true

pub loop-links-preserved : goal.loop-links-preserved
loop-links-preserved c = count_more c.loop-links.invariant c.loop-links-test.true c.if-at-eq-OFFSET.false c.from_block-at.ensures

pub returns : goal.returns
returns c = count_all c.loop-links.invariant c.loop-links-test.false
