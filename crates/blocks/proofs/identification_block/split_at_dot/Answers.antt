-- `split_at_dot` meets its contract: the library finds the first '.'.
use Rattle.std.proofs.Common.{◌≡◌, ◌∙◌, rules, eqb, ap}
use borrow.Author.Tests.{tests}
use Rattle.std.specs.List.{position_or_len}
use Rattle.std.specs.Option.{unwrap_or}
use Rattle.std.proofs.lemmas.Iterator.{YieldsList-from_slice}
use Rattle.std.proofs.lemmas.Iterator.Search.{position_from_yields_List}
use lib.ListN.{length}
use Rattle.utf8.proofs.Ends.{found_or_end}
use Rattle.blocks.proofs.Version.{dot_front, dot_back}
use Rattle.blocks.proofs.identification_block.split_at_dot.Goals as goal

dot_at : (c : goal.After-split_at) → c.unwrap_or-dot.result ≡ position_or_len (λ b. eqb b 46) c.args.text.now
dot_at c =
    let s = c.args.text.now in
    let found = position_from_yields_List (λ b. eqb b 46) _ _ c.position.result c.position.ensures.ran (YieldsList-from_slice s (cc)) (λ x b q k. search (rules, tests)) in
    c.unwrap_or-dot.ensures ∙ ap (λ o. unwrap_or o (length s)) found ∙ found_or_end (λ b. eqb b 46) s

pub returns-clause-before : goal.returns-clause-before
returns-clause-before c = rw (c.split_at.ensures.front, dot_at c) (dot_front c.args.text.now)

pub returns-clause-rest : goal.returns-clause-rest
returns-clause-rest c = rw (c.split_at.ensures.back, dot_at c) (dot_back c.args.text.now)
