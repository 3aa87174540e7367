-- The text ends before the first NUL, or where it ends itself.
use Rattle.std.proofs.Common.{rules, eqb}
use borrow.Author.Tests.{tests}
use Rattle.std.proofs.lemmas.Iterator.{YieldsList-from_slice}
use Rattle.std.proofs.lemmas.Iterator.Search.{position_from_yields_List}
use Rattle.utf8.proofs.Ends.{before_front, found_or_end}
use Rattle.utf8.proofs.before_nul.Goals as goal

pub returns-clause-before : goal.returns-clause-before
returns-clause-before c =
    let s = c.args.text.now in
    let found = position_from_yields_List (λ b. eqb b 0) _ _ c.position.result c.position.ensures.ran (YieldsList-from_slice s (cc)) (λ x b q k. search (rules, tests)) in
    rw (c.unwrap_or-end.ensures, found, found_or_end (λ b. eqb b 0) s) (before_front s)
