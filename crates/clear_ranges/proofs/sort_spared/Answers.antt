-- `sort_spared` meets its contract.
use Rattle.std.proofs.Common.{arith}
use Rattle.tables.proofs.Gapping.{listed}
use Rattle.scratch_rows.proofs.Covering.{covers_taken}
use Rattle.clear_ranges.proofs.Clearing.{refused_at, sorted_at}
use Rattle.clear_ranges.proofs.sort_spared.Goals as goal

pub put_spared-count-requires : goal.put_spared-count-requires
put_spared-count-requires c = λ i h. (c.requires.row i h).readable

pub returns-then-lent-count : goal.returns-then-lent-count
returns-then-lent-count c =
    let filled = listed c.put_spared-count.ensures.pushed in
    λ y e1 e2 v e3. refused_at c.args.file.now _ _ filled y e1 e2 v e3 (omega arith)

pub returns : goal.returns
returns c =
    let filled = listed c.put_spared-count.ensures.pushed in
    λ y e1 e2 v e3. sorted_at c.args.file.now _ _ filled y e1 e2 v e3 (covers_taken c.requires) (omega arith) c.sort_rows.ensures
