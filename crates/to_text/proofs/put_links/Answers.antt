-- `put_links` meets its contract. The invariant: the links passed are written.
use Rattle.std.proofs.Common.{◌≡◌, take}
use Rattle.std.proofs.Math.Seq.{take_all}
use Rattle.to_text.proofs.Lines.{links_start, link_turn}
use Rattle.tables.specs.Rows.{link_of_words}
use Rattle.to_text.proofs.put_links.Goals as goal

pub loop-i-init : goal.loop-i-init
loop-i-init c = links_start _ _

pub loop-i-preserved : goal.loop-i-preserved
unfolding link_of_words
loop-i-preserved c = link_turn _ c.args.links.now c.loop-i.i _ c.loop-i-test.true c.loop-i.invariant c.put_link.ensures

pub returns : goal.returns
returns c = let all : take c.loop-i.i c.args.links.now ≡ c.args.links.now = take_all _ _ c.loop-i-test.false in rw all at c.loop-i.invariant
