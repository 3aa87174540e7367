-- A part of a part.
use mathlib.Core.Path.{◌≡◌, sym, ap, ◌∙◌}
use mathlib.Core.List.{List}
use Prim.Native.Nat.{ℕ, ◌+◌, ◌-◌, ◌≤◌}
use native.Mathlib.Omega.{arith}
use lib.ListN.{length, take, drop, length-take}
use lib.Seq.{slice, length-slice, take-take, drop-drop}
use Rattle.std.proofs.lemmas.List.{drop-take}
use Rattle.utf8.specs.Parts.{IsPart}

-- what is cut out of a list, as the code has it
pub cut_slice : (r : List ℕ) (from to : ℕ) → from ≤ to → take (to - from) (drop from r) ≡ slice from to r
cut_slice r from to h =
    let e : from + (to - from) ≡ to = omega arith in
    sym (drop-take from (to - from) r) ∙ ap (λ (n : ℕ). slice from n r) e

pub cut_part : (r : List ℕ) (from to : ℕ) → from ≤ to → to ≤ length r → IsPart r (take (to - from) (drop from r))
cut_part r from to h l = record { from = from; to = to; order = h; high = l; is = cut_slice r from to h }

slice_slice : (r : List ℕ) (from to i j : ℕ) → from + j ≤ to → slice i j (slice from to r) ≡ slice (from + i) (from + j) r
slice_slice r from to i j h =
    let e : take j (slice from to r) ≡ slice from (from + j) r =
    sym (drop-take from j (take to r)) ∙ ap (drop from) (take-take (from + j) to r h) in
    ap (drop i) e ∙ drop-drop i from (take (from + j) r)

-- it begins no earlier
pub part_part : {r t u : List ℕ} (p : IsPart r t) → IsPart t u → (w : IsPart r u) × (p.from ≤ w.from)
part_part {r} {t} {u} p q =
    let l : length t ≡ p.to - p.from = ap (λ x. length x) p.is ∙ length-slice p.from p.to r p.high in
    let h : p.from + q.to ≤ p.to = omega (arith, p.order, q.high, l) in (
      record {
        from = p.from + q.from;
        to = p.from + q.to;
        order = omega (arith, q.order);
        high = omega (arith, h, p.high);
        is = q.is ∙ ap (slice q.from q.to) p.is ∙ slice_slice r p.from p.to q.from q.to h;
      },
      omega arith,
    )

pub part_front : {t u : List ℕ} → u ≡ take (length u) t → IsPart t u
part_front {t} {u} e = record { from = 0; to = length u; order = omega arith; high = omega (arith, ap (λ x. length x) e, length-take {A = ℕ}); is = e }
