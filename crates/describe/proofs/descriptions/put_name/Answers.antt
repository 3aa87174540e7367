-- `put_name` meets its contract: the name that was read, or nothing where there is none or it is refused.
use Rattle.std.proofs.Common.{rules}
use Rattle.describe.proofs.Named.{name_some, name_empty, name_refused}
use Rattle.describe.proofs.Written.{writes_as}
use Rattle.describe.proofs.descriptions.put_name.Goals as goal

pub returns-in-Ok-Some : goal.returns-in-Ok-Some
returns-in-Ok-Some c = writes_as c.put_lossy.ensures (name_some c.args.file.now c.args.addr c.read_text_at.result c.read_text_at.ensures.says c.in-Ok-Some.name (search rules))

pub returns : goal.returns
returns c = search (rules, name_empty)

pub returns-2 : goal.returns-2
returns-2 c = search (rules, name_refused)
