-- `LentTables::lay_gaps` meets its contract: the gaps do not fit, or the layout stands in the tables. Assumes nothing.
use mathlib.Core.Path.{sym, ap, ◌∙◌}
use native.Mathlib.Omega.{arith}
use lib.ListN.{length}
use Rattle.file_layout.proofs.Laying.{gaps_refused, stands}
use Rattle.file_layout.proofs.LentTables.lay_gaps.Goals as goal

pub returns-then-rows-count-clause-laid : goal.returns-then-rows-count-clause-laid
returns-then-rows-count-clause-laid c n file t t' h a b k =
    let ordered = rw (← a.blocks) at c.order_blocks.ensures in
    let listed = rw (h, c.first_rows.ensures, ← a.gaps) at c.list_gaps-count.ensures in
    record { is = gaps_refused k ordered listed (omega (arith, c.if-rows-count.true)) }

pub returns-clause-laid : goal.returns-clause-laid
returns-clause-laid c n file t t' h a b k =
    let ordered = rw (← a.blocks) at c.order_blocks.ensures in
    let listed = rw (h, c.first_rows.ensures, ← a.gaps) at c.list_gaps-count.ensures in
    let long = c.order_blocks.auto.t ∙ ap length (sym a.blocks) in
    record { is = stands k ordered listed (omega (arith, c.if-rows-count.false)) long b.visited b.blocks b.links b.gaps }
