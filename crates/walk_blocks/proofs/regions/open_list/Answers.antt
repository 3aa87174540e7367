-- `open_list` meets its contract: refused, or listed.
use Rattle.std.proofs.Common.{refl, arith, rules}
use Rattle.mdf4.specs.Act.{DL}
use Rattle.mdf4.specs.Kinds.{no_records}
use Rattle.walk_state.proofs.Steps.{handed, then, halt, done}
use Rattle.walk_blocks.specs.Regions.{open_list}
use Rattle.walk_blocks.proofs.Entering.{enter_refused, found_enters}
use Rattle.walk_blocks.proofs.DataLists.{list_told, list_refused, words_given}
use Rattle.walk_blocks.proofs.regions.open_list.Goals as goal

pub returns-in_err-list-clause-opens : goal.returns-in_err-list-clause-opens
unfolding open_list
returns-in_err-list-clause-opens c = handed _ c.from_residual.ensures.1 (halt _ (enter_refused DL _ _ (list_refused _ _ c.in_err-list.ensures)))

pub read_u32-requires : goal.read_u32-requires
read_u32-requires c = let t = list_told c.args.walker.now.file.now c.args.addr _ c.in_ok-list.ensures refl in omega (arith, t.inside.inside)

pub list_links-requires : goal.list_links-requires
list_links-requires c =
    let t = list_told c.args.walker.now.file.now c.args.addr _ c.in_ok-list.ensures c.read_u32.ensures in
    λ i l k p e r b u f g. omega (arith, l, t.inside.inside)

pub returns-in_err-list_links-clause-opens : goal.returns-in_err-list_links-clause-opens
unfolding open_list
returns-in_err-list_links-clause-opens c =
    let t = list_told c.args.walker.now.file.now c.args.addr _ c.in_ok-list.ensures c.read_u32.ensures in
    let f = t.found c.plain-block.ensures in
    handed _ c.from_residual-in_err-list_links.ensures.1
    (halt _ (found_enters f
    (c.in_err-list_links.ensures (no_records 0) f.own _
    (words_given c.args.walker.now.file.now c.args.addr c.in_ok-list.list.links_nr (λ i x p. search rules)) f.tells)))

pub returns-clause-opens : goal.returns-clause-opens
unfolding open_list
returns-clause-opens c =
    let t = list_told c.args.walker.now.file.now c.args.addr _ c.in_ok-list.ensures c.read_u32.ensures in
    let f = t.found c.plain-block.ensures in
    then _ (found_enters f
    (c.in_ok-list_links.ensures (no_records 0) f.own _
    (words_given c.args.walker.now.file.now c.args.addr c.in_ok-list.list.links_nr (λ i x p. search rules)) f.tells)) (done refl)

pub returns-clause-inside : goal.returns-clause-inside
returns-clause-inside c = (list_told c.args.walker.now.file.now c.args.addr _ c.in_ok-list.ensures c.read_u32.ensures).inside
