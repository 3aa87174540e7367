-- `put_gaps` meets its contract. The invariant: the gaps passed are written behind the heading.
use Rattle.std.proofs.Common.{◌≡◌, length, take, arith}
use Rattle.std.proofs.Math.Seq.{take_all}
use Rattle.std.proofs.lemmas.Bool.Decides.{nat_tests}
use Rattle.fmt.proofs.Text.{writes_none, writes_then}
use Rattle.mdf4.specs.Listing.{gap_line}
use Rattle.to_text.proofs.Lines.{start, turn, gaps_none, headed}
use Rattle.to_text.proofs.put_gaps.Goals as goal

pub returns-then-is_empty : goal.returns-then-is_empty
returns-then-is_empty c = let none : length c.args.gaps.now ≡ 0 = grind (arith, nat_tests) in rw (← (gaps_none c.args.gaps.now none)) (writes_none _)

pub loop-start-init : goal.loop-start-init
loop-start-init c = start _ _

pub loop-start-preserved : goal.loop-start-preserved
unfolding gap_line
loop-start-preserved c =
    let line = rw c.saturating_sub.ensures at c.put_format.ensures in
    turn _ _ c.args.gaps.now c.loop-start.start-index _ c.loop-start-test.true c.loop-start.invariant line

pub returns : goal.returns
returns c =
    let gaps = c.args.gaps.now in
    let some : length gaps ≡ 0 → ⊥ = λ z. grind (arith, nat_tests) in
    let all : take c.loop-start.start-index gaps ≡ gaps = take_all _ gaps c.loop-start-test.false in
    rw (← (headed gaps some)) (writes_then c.put_bytes.ensures (rw all at c.loop-start.invariant))
