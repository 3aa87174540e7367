-- The links of a source, and its length test.
use mathlib.Core.Path.{◌≡◌, refl, ap, ◌∙◌}
use mathlib.Core.Bool.{cond}
use mathlib.Core.List.{List, [], ◌∷◌, ◌++◌}
use Prim.Native.Nat.{ℕ, zero, suc, ◌+◌, ◌*◌, ◌≤◌, min}
use native.Mathlib.Omega.{arith}
use lib.Dec.{ltb}
use lib.ListN.{length, take}
use borrow.Author.Tests.{lt-ltb}
use Rattle.mdf4.specs.Bytes.{bytes, little, num, words}
use Rattle.mdf4.specs.Act.{Out, ok, SI}
use Rattle.mdf4.specs.Kinds.{shape, is, links_nr, data_at, header_ok, rest, read_len}
use Rattle.blocks.specs.declared.common.BlockHeader.{BlockHeader}
use Rattle.blocks.specs.Headers.{marked_or}
use Rattle.blocks.specs.Parse.{parsed, IsOwn}
use Rattle.blocks.specs.Extents.{need_or}
use Rattle.blocks.proofs.Extents.{headed, marked_headed, found, by_need, own, head_refused}

-- the links that the definition shows
pub three : (o : List ℕ) (n : ℕ) → take 3 (words o 24 (min 3 n) ++ 0 ∷ 0 ∷ 0 ∷ [])
    ≡ cond (ltb 0 n) (num o 24 8) 0 ∷ cond (ltb 1 n) (num o 32 8) 0 ∷ cond (ltb 2 n) (num o 40 8) 0 ∷ []
unfolding words
three o zero = refl
three o (suc zero) = refl
three o (suc (suc zero)) = refl
three o (suc (suc (suc n))) =
    let m : min 3 (suc (suc (suc n))) ≡ 3 = omega arith in
    rw (m, lt-ltb 0 (suc (suc (suc n))) (omega arith), lt-ltb 1 (suc (suc (suc n))) (omega arith), lt-ltb 2 (suc (suc (suc n))) (omega arith))

pub si_headed : (r : List ℕ) (a : ℕ) → marked_or r a 24 0x49532323 ≡ headed SI r a
unfolding shape little
si_headed r a = marked_headed SI 24 0x49532323 r a refl refl refl

pub si_needs : (r : List ℕ) (a : ℕ) {h : BlockHeader} {x : Out ℕ} → ok h ≡ headed SI r a → x ≡ need_or (length r) a (27 + 8 * h.links_nr) → x ≡ parsed length SI r a
unfolding header_ok rest is shape data_at
si_needs r a {h = h} e p =
    let z : 27 + 8 * h.links_nr ≡ 24 + 8 * links_nr (bytes r a 24) + 3 = omega (arith, (found SI r a e).links) in
    by_need SI r a e refl (λ w. refl) (p ∙ ap (λ (m : ℕ). need_or (length r) a m) z)

-- the fields stand in a block's own bytes
pub si_fits : {o : List ℕ} → IsOwn SI o → 24 + 8 * num o 16 8 + 3 ≤ length o
unfolding read_len rest is shape data_at
si_fits x =
    let w = own x in
    let l : length _ ≡ 24 + 8 * links_nr (bytes x.recording x.at 24) + 3 + 0 = w.len in
    omega (arith, l, w.links)

-- what the extent's answers rest on
pub ruleset extent_laws = (found, head_refused, si_headed, si_needs)
