-- The NULs from the front on are counted.
use Rattle.std.proofs.Common.{rules, eqb}
use borrow.Author.Tests.{tests}
use Rattle.std.proofs.lemmas.Iterator.{YieldsList-from_slice}
use Rattle.std.proofs.lemmas.Iterator.Consumers.{YieldsList-at, count_from_yields_List}
use Rattle.std.proofs.lemmas.Iterator.Search.{YieldsList-from_take_while}
use Rattle.std.proofs.lemmas.List.Folds.{length-prefix_len}
use Rattle.std.proofs.lemmas.List.{take_rest}
use Rattle.utf8.proofs.Ends.{start_back}
use Rattle.utf8.proofs.trim_start_nuls.Goals as goal

pub returns-clause-trimmed : goal.returns-clause-trimmed
returns-clause-trimmed c =
    let s = c.args.text.now in
    let w = c.take_while.ensures in
    let counted = count_from_yields_List _ _ c.count-nuls.ensures.ran
    (YieldsList-from_take_while _ (λ b. eqb b 0) (YieldsList-at w.source (YieldsList-from_slice s (cc))) w.closure w.done (λ x b q k. search (rules, tests))) in
    rw (counted, length-prefix_len, take_rest) (start_back s)
