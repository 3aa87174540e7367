-- The text of the parts that are to come is left (`Left`).
use Rattle.utf8.specs.Utf8.{chunks, shown_all}
use Rattle.utf8.specs.Parts.{left}
use Rattle.fmt.specs.Preview.{flat}
use Rattle.fmt.specs.Text.{page}
use Rattle.fmt.proofs.Text.{Left}
use Rattle.fmt.proofs.store_chunks.Given as goal

abbrev pub invariant-loop-part : goal.invariant-loop-part
invariant-loop-part l =
    Left (page l.initial.out l.at-2) (page l.out l.at) (shown_all (flat l.one (chunks l.text))) (shown_all (flat l.one (left l.part-iterator)))
