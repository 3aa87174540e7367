-- `preview` meets its contract: the scratch table is zeroed behind it, and a refusal zeroes all. Assumes nothing.
use borrow.Author.Rules.{rules}
use lib.ListN.{length}
use Rattle.file_layout.specs.Tables.{lent}
use Rattle.answers.proofs.Exits.{keeps_then, long, settled_counts, left_behind}
use Rattle.preview_entry.proofs.preview.Goals as goal

pub returns-clause-exit : goal.returns-clause-exit
returns-clause-exit c =
    let a = c.args in
    let n = lent a.visited.now a.blocks.now a.links.now a.gaps.now (length a.scratch.now) (length a.counts.now) in
    let k = c.preview_counts-answer in
    let e = settled_counts n _ (long k.ensures.keeps k.auto.counts) k.ensures.exit k.ensures.refused c.settle.ensures.settled in
    let keeps = keeps_then k.ensures.keeps c.settle.ensures.keeps in
    rw (c.settle.ensures.answer, c.fill.ensures.after (λ y h. h), k.auto.scratch)
    (left_behind _ _ _ e (search rules) (search rules) (search rules) (search rules))
