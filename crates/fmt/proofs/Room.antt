-- An output that is long enough for a text, and one that is not. Assumes nothing.
use Prim.Native.Nat.{ℕ, zero, suc, ◌+◌, ◌-◌, ◌^◌, ◌≤◌, ◌<◌, min}
use native.Mathlib.Nat.{sub-zero, zero-sub, suc-sub-suc}
use native.Mathlib.Omega.{arith}
use mathlib.Core.Path.{◌≡◌, refl, sym, ap, ap₂, ◌∙◌}
use mathlib.Core.List.{List, [], ◌∷◌, ◌++◌, append_assoc}
use lib.ListN.{length, take, drop, replicate, length-append, length-drop, length-replicate, take-append-drop}
use Rattle.std.proofs.lemmas.List.{length-take-le, drop-drop}
use lib.Seq.{set-append_seam}
use borrow.Rule.Slice.PartMut.{put_mid, Post-is}
use Rattle.fmt.specs.Text.{Page, page, step, emit, Wrote}
use Rattle.fmt.proofs.Text.{output}

-- the count
abbrev count : Page → ℕ
count (page out at) = at

count_step : (p : Page) (b : ℕ) → count (step p b) ≡ min (count p + 1) (2 ^ 64 - 1)
unfolding step
count_step (page out at) b = refl

count_emit : (p : Page) (t : List ℕ) → count p < 2 ^ 64 → count (emit p t) ≡ min (count p + length t) (2 ^ 64 - 1)
unfolding emit
count_emit p [] h = omega arith
count_emit p (b ∷ t) h =
    let e : count (step p b) ≡ min (count p + 1) (2 ^ 64 - 1) = count_step p b in
    let ih : count (emit (step p b) t) ≡ min (count (step p b) + length t) (2 ^ 64 - 1) = count_emit (step p b) t (omega arith) in
    omega arith

pub counted : {out : List ℕ} {at : ℕ} {t : List ℕ} {out' : List ℕ} {at' : ℕ} → at < 2 ^ 64 → Wrote out at t out' at'
    → at' ≡ min (at + length t) (2 ^ 64 - 1)
counted {out} {at} {t} h w = ap count w.is ∙ count_emit (page out at) t h

-- the bytes, where there is room for them
step_room : (p r : List ℕ) (x b : ℕ) → length p + 1 < 2 ^ 64
    → step (page (p ++ (x ∷ r)) (length p)) b ≡ page ((p ++ (b ∷ [])) ++ r) (length (p ++ (b ∷ [])))
unfolding step
step_room p r x b h =
    ap₂ page (set-append_seam p x r b ∙ sym (append_assoc p (b ∷ []) r))
    (rw length-append (omega arith))

emit_room : (t p r : List ℕ) → length t ≤ length r → length p + length t < 2 ^ 64
    → output (emit (page (p ++ r) (length p)) t) ≡ p ++ (t ++ drop (length t) r)
unfolding emit
emit_room [] p r h k = refl
emit_room (b ∷ t) p [] h k = absurd (omega arith)
emit_room (b ∷ t) p (x ∷ r) h k =
    rw (step_room p r x b (omega arith))
    (emit_room t (p ++ (b ∷ [])) r (omega arith) (rw length-append (omega arith)) ∙ append_assoc p (b ∷ []) (t ++ drop (length t) r))

-- a page is its output and its count
page_is : (p : Page) → p ≡ page (output p) (count p)
page_is (page out at) = refl

-- a text for which there is room behind the place at is stored there
pub emit_fits : (out t : List ℕ) (at : ℕ) → at + length t ≤ length out → at + length t < 2 ^ 64 - 1
    → emit (page out at) t ≡ page (take at out ++ (t ++ drop (at + length t) out)) (at + length t)
emit_fits out t at h k =
    let front : length (take at out) ≡ at = length-take-le at out (omega arith) in
    let behind : length (drop at out) ≡ length out - at = length-drop at out in
    let stored : output (emit (page (take at out ++ drop at out) (length (take at out))) t) ≡ take at out ++ (t ++ drop (length t) (drop at out)) =
    emit_room t (take at out) (drop at out) (omega (arith, behind)) (omega (arith, front)) in
    let counts : count (emit (page out at) t) ≡ min (at + length t) (2 ^ 64 - 1) = count_emit (page out at) t (omega arith) in
    page_is (emit (page out at) t)
    ∙ ap₂ page (rw (take-append-drop, front, drop-drop) at stored) (omega (arith, counts))

-- the same of the code, where the output becomes o
pub stores : (out t o : List ℕ) (at n : ℕ) → length t ≡ n → at + n ≤ length out → length out < 2 ^ 63 → o ≡ put_mid at (at + n - at) out t
    → Wrote out at t o (at + n)
stores out t o at n long h k e =
    record {
      is = rw (e, Post-is at (at + n) out (omega arith), ← long) (sym (emit_fits out t at (omega (arith, long)) (omega (arith, long))));
    }

pub drop_replicate : (k n v : ℕ) → drop k (replicate n v) ≡ replicate (n - k) v
drop_replicate zero n v = rw sub-zero
drop_replicate (suc k) zero v = rw zero-sub
drop_replicate (suc k) (suc n) v = rw suc-sub-suc (drop_replicate k n v)

-- a text that was written from the start of n zeros
module _ (n : ℕ) {t out : List ℕ} {at : ℕ} (small : n + 1 < 2 ^ 64) (w : Wrote (replicate n 0) 0 t out at) where
  counted_all : at ≡ min (0 + length t) (2 ^ 64 - 1)
  counted_all = counted (omega arith) w

  -- it fits: the output is the text and then zeros, and the count its length
  pub fitted : at ≤ n → (length t ≤ n) × (at ≡ length t) × (out ≡ t ++ replicate (n - length t) 0)
  fitted h =
      let l : length t ≤ n = omega (arith, counted_all) in (
        l,
        omega (arith, counted_all),
        ap output w.is
            ∙ emit_room t [] (replicate n 0) (rw length-replicate l) (omega arith)
            ∙ ap (λ (r : List ℕ). t ++ r) (drop_replicate (length t) n 0),
      )

  -- it does not: the text is longer than the output, and the count is its length or stopped at 2^64 - 1
  pub refused : n < at → (n < length t) × (at ≡ min (length t) (2 ^ 64 - 1))
  refused h = (omega (arith, counted_all), omega (arith, counted_all))
