-- `parse_minor` meets its contract: there is no minor part, or it stands behind the first '.' up to the next.
use mathlib.Core.Path.{◌∙◌, sym}
use Rattle.std.proofs.lemmas.List.{take_rest}
use Rattle.mdf4.specs.Act.{refusal}
use Rattle.blocks.proofs.Version.{minor_none, minor_some}
use Rattle.blocks.proofs.identification_block.parse_minor.Goals as goal

pub returns-in-empty : goal.returns-in-empty
returns-in-empty c = sym (minor_none (refusal 3 8 3 0) c.args.text.now c.in-empty.len_below)

pub returns-in-len1-up : goal.returns-in-len1-up
returns-in-len1-up c =
    let s = c.args.text.now in
    let p = rw (c.split_at_dot.ensures.before, take_rest s 1) at c.parse_u16.ensures in
    p ∙ sym (minor_some (refusal 3 8 3 0) s c.in-len1-up.len_at_least)
