-- `Link::new` meets its contract: a null target, one whose mark is not inside, and one whose mark is.
use Rattle.std.proofs.Common.{◌∙◌, arith}
use Rattle.walk_state.proofs.Room.{found_null, found_past, found_there}
use Rattle.walk_state.proofs.Link.new.Goals.{else-target-ne0-via-then-target-ne0+then-len-ge4+else-target-len}
use Rattle.walk_state.proofs.Link.new.Goals.{else-target-ne0-via-then-target-ne0+else-len-ge4, else-target-ne0-via-else-target-ne0}
use Rattle.walk_state.proofs.Link.new.Goals as goal

pub returns-then-target-len : goal.returns-then-target-len
returns-then-target-len c =
    found_there c.args.file.now c.args.target c.if-target-ne0.true (omega arith) c.from.result (c.from.ensures ∙ c.read_u32.ensures)

pub returns-else-target-ne0 : goal.returns-else-target-ne0
returns-else-target-ne0 c =
    let r = c.args.file.now in
    let t = c.args.target in
    elim c.else-target-ne0.branch [
      | else-target-ne0-via-then-target-ne0+then-len-ge4+else-target-len w ↦ found_past r t w.if-target-ne0.true (omega arith)
      | else-target-ne0-via-then-target-ne0+else-len-ge4 w ↦ found_past r t w.if-target-ne0.true (omega arith)
      | else-target-ne0-via-else-target-ne0 w ↦ found_null r t w.if-target-ne0.false
    ]
