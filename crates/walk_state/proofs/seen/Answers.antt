-- `seen` meets its contract: the library's `contains` of the offsets before n, or of all where there are fewer.
use Rattle.std.proofs.Common.{ap, ◌∙◌, take}
use Rattle.std.proofs.lemmas.List.{take_min}
use Rattle.mdf4.specs.Act.{elem}
use Rattle.walk_state.proofs.Offsets.{any-elem}
use Rattle.walk_state.proofs.seen.Goals as goal

pub returns : goal.returns
returns c =
    let v = c.args.visited.now in
    c.contains.ensures.value ∙ any-elem c.args.at (take c.min.result v) ∙ ap (λ m. elem c.args.at (take m v)) c.min.ensures
    ∙ ap (elem c.args.at) (take_min c.args.n v)
