-- `put_tree` meets its contract: all roots, from the output's start on.
use Rattle.std.proofs.Common.{◌∙◌, rules}
use Rattle.to_tree.proofs.Opening.{ready_of}
use Rattle.to_tree.proofs.Turning.{tree_met, tree_refused}
use Rattle.to_tree.proofs.put_tree.Goals as goal

pub invariant_of-printer : goal.invariant_of-printer
invariant_of-printer c = record { ready = ready_of _ _ c.requires.0 c.requires.1 }

pub returns-in_err-put_roots : goal.returns-in_err-put_roots
returns-in_err-put_roots c y z h =
    let start = c.new-page.ensures in
    tree_refused _ _ _ _ c.new-page.result _ _ _ _ _ start.out start.at y z h _ _ c.from_residual.ensures.1 c.in_err-put_roots.ensures.printed

pub returns : goal.returns
returns c y z h =
    let start = c.new-page.ensures in
    let went = c.in_ok-put_roots.ensures in
    let blocks = went.same.blocks in
    let page = went.same.page in
    let out = went.same.out ∙ start.same_reference in
    tree_met _ _ _ _ c.new-page.result _ _ _ _ _ start.out start.at y z h _ _ went.printed (search rules) (search rules) (search rules)
