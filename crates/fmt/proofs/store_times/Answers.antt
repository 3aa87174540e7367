-- All are stored at once, or one after the other.
use Rattle.std.proofs.Common.{arith, ℕ, ◌≡◌, ◌+◌, ◌-◌, ◌∙◌, ap, length, take, drop, replicate}
use Rattle.std.proofs.lemmas.List.{length-take-le, length-drop, length-replicate}
use Rattle.fmt.proofs.Room.{stores}
use Rattle.fmt.proofs.store_times.Goals as goal

pub returns-then-n-out : goal.returns-then-n-out
returns-then-n-out c =
    let a = c.args in
    let at = a.at in
    let out = a.out.now in
    let behind : length (drop at out) ≡ length out - at = length-drop at out in
    let long : length (take (at + a.n - at) (drop at out)) ≡ at + a.n - at = length-take-le _ _ (omega (arith, behind)) in
    let stored : c.fill.new.self ≡ replicate a.n a.b = c.fill.ensures.after (λ y h. h) ∙ ap (λ (k : ℕ). replicate k a.b) (long ∙ omega arith) in
    stores out (replicate a.n a.b) _ at a.n (length-replicate a.n a.b) (omega arith) (omega arith) (rw stored)
