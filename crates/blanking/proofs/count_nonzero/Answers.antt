-- `count_nonzero` meets its contract.
use Rattle.std.proofs.Common.{◌≡◌, ◌∙◌, rules}
use Rattle.std.specs.List.{count_by}
use Rattle.std.specs.Prelude.{not, eqb}
use Rattle.blanking.proofs.Counting.{nonzero_all}
use Rattle.blanking.proofs.count_nonzero.Goals as goal

pub returns : goal.returns
returns c =
    let e : c.count.result ≡ count_by (λ x. not (eqb x 0)) c.args.bytes.now = search rules in
    e ∙ nonzero_all c.args.bytes.now
