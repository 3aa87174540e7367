-- `put_target` meets its contract: a text for a null link, else the target and the mark.
use Rattle.fmt.proofs.Text.{writes_then}
use Rattle.std.proofs.lemmas.Bool.{ne_eqb}
use Rattle.mdf4.specs.Listing.{target_text}
use Rattle.to_text.proofs.put_target.Goals as goal

pub returns-then-target-eq0 : goal.returns-then-target-eq0
unfolding target_text
returns-then-target-eq0 c = rw c.if-target-eq0.true c.put_bytes.ensures

pub returns : goal.returns
unfolding target_text
returns c =
    rw (ne_eqb c.args.target 0 c.if-target-eq0.false)
    (writes_then (writes_then c.put_format.ensures (c.put_found.ensures c.args.target)) c.put_bytes-2.ensures)
