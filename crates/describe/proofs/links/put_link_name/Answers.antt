-- `put_link_name` meets its contract: a number for a data list's data link, or a fixed name.
use Rattle.std.proofs.Common.{sym, ◌∙◌, inl, inr}
use Rattle.describe.proofs.Names.{list_link, fixed_link}
use Rattle.describe.proofs.Written.{writes_as}
use Rattle.describe.proofs.links.put_link_name.Goals as goal
use Rattle.describe.proofs.links.put_link_name.Goals.{else-eq-via-then-eq+else-i-gt0, else-eq-via-else-eq}

pub returns-then-i-gt0 : goal.returns-then-i-gt0
returns-then-i-gt0 c = rw (list_link c.args.kind c.args.i c.if-eq.ensures c.if-i-gt0.true) c.put_format.ensures

pub returns-else-eq : goal.returns-else-eq
returns-else-eq c =
    let fixed = fixed_link c.args.kind c.args.i (elim c.else-eq.branch [ else-eq-via-then-eq+else-i-gt0 w ↦ inr w.if-i-gt0.false | else-eq-via-else-eq w ↦ inl w.if-eq.ensures ]) in
    writes_as c.put_bytes.ensures (c.as_bytes.ensures.value ∙ c.fixed_name.ensures ∙ sym fixed)
