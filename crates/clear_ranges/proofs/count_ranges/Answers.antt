-- `count_ranges` meets its contract: n rows leave n + 1 ranges at most.
use Rattle.std.proofs.Common.{inl, arith}
use Rattle.std.proofs.lemmas.Iterator.Consumers.{YieldsList-from_first, count_from_yields_List}
use Rattle.std.proofs.lemmas.List.{length-map}
use Rattle.tables.specs.Gaps.{bounds, range_of, gaps_left}
use Rattle.tables.proofs.Gapping.{gaps_most}
use Rattle.clear_ranges.proofs.count_ranges.Goals as goal

pub count-requires-clause-fits : goal.count-requires-clause-fits
count-requires-clause-fits c = inl (rw c.new.ensures (omega (arith, gaps_most, length-map c.args.rows.now range_of)))

pub returns : goal.returns
returns c = count_from_yields_List c.new.result _ c.count.ensures.ran (YieldsList-from_first bounds gaps_left _ c.new.ensures)
