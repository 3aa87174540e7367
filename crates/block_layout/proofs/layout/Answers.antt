-- `layout` meets its contract: a refusal zeroes all. Assumes nothing.
use mathlib.Core.Path.{refl}
use borrow.Author.Rules.{rules}
use Rattle.file_layout.specs.Tables.{lent}
use Rattle.answers.proofs.Exits.{keeps_then, long, settled_counts, left_behind}
use Rattle.block_layout.proofs.layout.Goals as goal

pub returns : goal.returns
returns c =
    let a = c.args in
    let n = lent a.visited.now a.blocks.now a.links.now a.gaps.now 0 0 in
    let k = c.lay_out-answer in
    let e = settled_counts n _ (long k.ensures.keeps refl) k.ensures.exit (search rules) c.settle.ensures.settled in
    let keeps = keeps_then k.ensures.keeps c.settle.ensures.keeps in
    rw (c.settle.ensures.answer) (left_behind _ _ _ e (search rules) (search rules) (search rules) (search rules))
