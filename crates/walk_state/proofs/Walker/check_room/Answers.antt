-- `Walker::check_room` meets its contract: each test of its ladder is one of the definition's.
use Rattle.std.proofs.Common.{arith}
use Rattle.walk_state.proofs.Room.{room_end, room_row, room_links, room_there}
use Rattle.walk_state.proofs.Walker.check_room.Goals as goal

pub returns-then-is_none : goal.returns-then-is_none
returns-then-is_none c =
    let a = c.args in
    let w = a.self.now in
    room_end a.offset a.size a.count w.walk w.visited.now w.blocks.now w.links.now (grind arith)

pub returns-then-rows-self : goal.returns-then-rows-self
returns-then-rows-self c =
    let a = c.args in
    let w = a.self.now in
    room_row a.offset a.size a.count w.walk w.visited.now w.blocks.now w.links.now (grind arith) (omega arith)

pub returns-then-pairs-self : goal.returns-then-pairs-self
returns-then-pairs-self c =
    let a = c.args in
    let w = a.self.now in
    room_links a.offset a.size a.count w.walk w.visited.now w.blocks.now w.links.now (grind arith) (omega arith) (omega arith)

pub returns : goal.returns
returns c =
    let a = c.args in
    let w = a.self.now in
    room_there a.offset a.size a.count w.walk w.visited.now w.blocks.now w.links.now (grind arith) (omega arith) (omega arith)
