-- The count is of the bytes from the front on that pass.
use Rattle.std.proofs.Common.{rules, ◌∙◌}
use borrow.Author.Tests.{tests}
use Rattle.std.proofs.lemmas.Iterator.{YieldsList-from_slice, YieldsList-from_take}
use Rattle.std.proofs.lemmas.Iterator.Consumers.{YieldsList-at, count_from_yields_List}
use Rattle.std.proofs.lemmas.Iterator.Search.{YieldsList-from_take_while}
use Rattle.utf8.specs.Utf8.{between}
use Rattle.utf8.proofs.Ends.{trailing_counts}
use Rattle.utf8.proofs.trail.Goals as goal

pub returns-clause-count : goal.returns-clause-count
returns-clause-count c =
    let s = c.args.text.now in
    let w = c.take_while.ensures in
    let road = YieldsList-at w.source (YieldsList-from_take c.args.more (YieldsList-at c.take.ensures.source (YieldsList-from_slice s (cc))) (cc)) in
    count_from_yields_List _ _ c.count.ensures.ran (YieldsList-from_take_while _ (λ b. between 0x80 0xbf b) road w.closure w.done (λ x b q k. search (rules, tests)))
    ∙ trailing_counts c.args.more s
