-- The NULs from the end back are counted.
use Rattle.std.proofs.Common.{rules, eqb}
use borrow.Author.Tests.{tests}
use Rattle.std.proofs.lemmas.Iterator.Adapters.{YieldsList-from_rev_slice}
use Rattle.std.proofs.lemmas.Iterator.Consumers.{YieldsList-at, count_from_yields_List}
use Rattle.std.proofs.lemmas.Iterator.Search.{YieldsList-from_take_while}
use Rattle.std.proofs.lemmas.List.Folds.{length-prefix_len}
use Rattle.utf8.proofs.Ends.{end_front}
use Rattle.utf8.proofs.trim_end_nuls.Goals as goal

pub returns-clause-trimmed : goal.returns-clause-trimmed
returns-clause-trimmed c =
    let s = c.args.text.now in
    let w = c.take_while.ensures in
    let counted = count_from_yields_List _ _ c.count-nuls.ensures.ran
    (YieldsList-from_take_while _ (λ b. eqb b 0) (YieldsList-at w.source (YieldsList-from_rev_slice s (cc))) w.closure w.done (λ x b q k. search (rules, tests))) in
    rw (counted, length-prefix_len) (end_front s)
