-- `link_name_len` meets its contract: an output counts what is put even where it has no room.
use Rattle.std.proofs.Common.{arith}
use Rattle.fmt.proofs.Room.{counted}
use Rattle.describe.proofs.links.link_name_len.Goals as goal

pub returns : goal.returns
returns c = omega (arith, counted (omega arith) c.put_link_name.ensures.wrote)
