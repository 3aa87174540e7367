-- `put_link_name_left` meets its contract: blanks fill the name to 28 bytes.
use Rattle.std.proofs.Common.{◌≡◌, ◌-◌, List, ℕ, length, arith, sym, ap, ◌∙◌, inl, inr}
use Rattle.fmt.proofs.Text.{writes_then}
use Rattle.mdf4.specs.Describe.{link_name}
use Rattle.blocks.specs.Kind.{kind_named}
use Rattle.fmt.specs.Digits.{pad_right}
use Rattle.describe.proofs.Names.{fixed_link}
use Rattle.describe.proofs.Written.{writes_as}
use Rattle.describe.proofs.links.put_link_name_left.Goals as goal
use Rattle.describe.proofs.links.put_link_name_left.Goals.{else-eq-via-then-eq+else-i-gt0, else-eq-via-else-eq}

pub returns-then-i-gt0 : goal.returns-then-i-gt0
unfolding pad_right
returns-then-i-gt0 c =
    let blanks : 28 - length (link_name (kind_named c.args.kind) c.args.i) ≡ c.saturating_sub.result = omega arith in
    rw blanks (writes_then c.put_link_name.ensures c.put_times.ensures)

pub returns-else-eq : goal.returns-else-eq
returns-else-eq c =
    let fixed = fixed_link c.args.kind c.args.i (elim c.else-eq.branch [ else-eq-via-then-eq+else-i-gt0 w ↦ inr w.if-i-gt0.false | else-eq-via-else-eq w ↦ inl w.if-eq.ensures ]) in
    writes_as c.put_left.ensures (ap (λ (s : List ℕ). pad_right 28 32 s) (c.as_bytes.ensures.value ∙ c.fixed_name.ensures ∙ sym fixed))
