-- `Walker::list_links` meets its contract: two tests that may refuse, then the row and its links.
use Rattle.std.proofs.Common.{arith}
use Rattle.walk_state.specs.Within.{link_of, row_made}
use Rattle.walk_state.specs.Held.{holds}
use Rattle.walk_state.proofs.Room.{room_shown}
use Rattle.walk_state.proofs.Steps.{handed}
use Rattle.walk_state.proofs.Listing.{accepted_more, linking_none, linking_more, listed_target, listed_off, listed_on, row_links}
use Rattle.walk_state.proofs.Walker.list_links.Goals as goal

pub returns-in_err-check_target : goal.returns-in_err-check_target
returns-in_err-check_target g c h o ts give tell =
    handed _ c.from_residual.ensures.1 (listed_target give tell c.loop-i.invariant c.loop-i-test.true c.target.ensures c.in_err-check_target.ensures)

pub loop-i-preserved : goal.loop-i-preserved
loop-i-preserved g c = accepted_more c.loop-i.invariant c.loop-i-test.true c.target.ensures c.in_ok-check_target.ensures

pub returns-in_err-check_room : goal.returns-in_err-check_room
returns-in_err-check_room g c h o ts give tell =
    handed _ c.from_residual-in_err-check_room.ensures.1 (listed_off give tell c.loop-i-test.false c.loop-i.invariant c.in_err-check_room.ensures)

pub push_row-requires-clause-fits : goal.push_row-requires-clause-fits
push_row-requires-clause-fits g c =
    let w = c.args.self.now in
    (room_shown c.args.block.offset c.args.block.size c.args.count w.walk w.visited.now w.blocks.now w.links.now c.in_ok-check_room.ensures).end

pub push_row-requires-clause-room : goal.push_row-requires-clause-room
push_row-requires-clause-room g c =
    let w = c.args.self.now in
    let r = room_shown c.args.block.offset c.args.block.size c.args.count w.walk w.visited.now w.blocks.now w.links.now c.in_ok-check_room.ensures in
    omega (arith, r.row)

pub loop-i-2-init : goal.loop-i-2-init
loop-i-2-init g c = linking_none

pub push_link-requires : goal.push_link-requires
push_link-requires g c =
    let w = c.args.self.now in
    let r = room_shown c.args.block.offset c.args.block.size c.args.count w.walk w.visited.now w.blocks.now w.links.now c.in_ok-check_room.ensures in
    let i = c.loop-i-2.invariant in
    let n = row_links _ (row_made c.args.block c.args.count (holds w)) c.push_row.ensures in
    omega (arith, r.links, i.count, i.keeps.links_long, c.push_row.ensures.keeps.links_long, n)

pub loop-i-2-preserved : goal.loop-i-2-preserved
loop-i-2-preserved g c =
    linking_more
    (link_of c.make_link-link.result) c.loop-i-2.invariant c.loop-i-2-test.true c.target-in-loop-i-2.ensures c.make_link-link.ensures c.push_link.ensures

pub returns : goal.returns
returns g c h o ts give tell =
    listed_on give tell c.loop-i-test.false c.loop-i.invariant c.loop-i-2-test.false c.in_ok-check_room.ensures c.push_row.ensures c.loop-i-2.invariant
