-- `put_found` meets its contract: the mark, or a question mark where none was found.
use Rattle.std.proofs.Common.{◌≡◌, arith}
use Rattle.std.proofs.lemmas.Bool.{ne_eqb}
use Rattle.mdf4.specs.Listing.{found_text}
use Rattle.to_text.proofs.put_found.Goals as goal

pub returns-in-Some : goal.returns-in-Some
unfolding found_text
returns-in-Some c = λ t. rw (ne_eqb c.args.found 0 (λ z. omega (arith, c.in-Some.ensures.0)), ← c.in-Some.ensures.1) c.put_mark.ensures

pub returns-in-None : goal.returns-in-None
unfolding found_text
returns-in-None c = λ t. let none : c.args.found ≡ 0 = omega (arith, c.in-None.ensures) in rw none c.put_bytes.ensures
