-- `path` meets its contract: a refusal zeroes all. Assumes nothing.
use borrow.Author.Rules.{rules}
use lib.ListN.{length}
use Rattle.file_layout.specs.Tables.{lent}
use Rattle.answers.proofs.Exits.{keeps_then, long, settled_counts, left_behind}
use Rattle.path_entry.proofs.path.Goals as goal

pub returns-clause-exit : goal.returns-clause-exit
returns-clause-exit c =
    let a = c.args in
    let n = lent a.visited.now a.blocks.now a.links.now a.gaps.now 0 (length a.path.now) in
    let k = c.trace-answer in
    let e = settled_counts n _ (long k.ensures.keeps k.auto.path) k.ensures.exit k.ensures.refused c.settle.ensures.settled in
    let keeps = keeps_then k.ensures.keeps c.settle.ensures.keeps in
    rw (c.settle.ensures.answer) (left_behind _ _ _ e (search rules) (search rules) (search rules) (search rules))
