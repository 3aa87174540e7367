-- `find_row` meets its contract: a row's first word is its offset, by which the library searches.
use Rattle.std.proofs.Common.{rules, get_or}
use Rattle.std.proofs.lemmas.List.Sorted.{answers_always}
use Rattle.block_search.proofs.Searching.{found}
use Rattle.block_search.proofs.find_row.Goals as goal

pub returns : goal.returns
returns c =
    let facts = c.binary_search_by_key.ensures in
    let by_offset = facts.position (λ row. get_or row 0 0) (answers_always _ _ _ (λ f a r g called. search rules)) in
    rw c.ok.ensures.value (found c.args.blocks.now c.args.offset _ facts.bound by_offset)
