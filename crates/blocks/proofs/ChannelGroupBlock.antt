-- The length tests of a channel group.
use mathlib.Core.Path.{◌≡◌, refl, ap, ◌∙◌}
use mathlib.Core.Bool.{Bool, true, false, ◌&&◌}
use mathlib.Core.List.{List}
use Prim.Native.Nat.{ℕ, ◌+◌, ◌*◌, ◌≤◌}
use native.Mathlib.Omega.{arith}
use lib.Dec.{leb}
use lib.ListN.{length}
use borrow.Author.Tests.{leb-true}
use Rattle.mdf4.specs.Bytes.{bytes, little, num}
use Rattle.mdf4.specs.Act.{Out, ok, err, refusal, CG}
use Rattle.mdf4.specs.Kinds.{shape, is, links_nr, data_at, header_ok, rest, read_len}
use Rattle.blocks.specs.declared.common.BlockHeader.{BlockHeader}
use Rattle.blocks.specs.Headers.{marked_or}
use Rattle.blocks.specs.Parse.{parsed, IsOwn}
use Rattle.blocks.specs.Extents.{need_or}
use Rattle.blocks.proofs.Extents.{headed, marked_headed, found, header_refused, by_need, own, head_refused}

pub cg_headed : (r : List ℕ) (a : ℕ) → marked_or r a 104 0x47432323 ≡ headed CG r a
unfolding shape little
cg_headed r a = marked_headed CG 104 0x47432323 r a refl refl refl

module _ (r : List ℕ) (a : ℕ) {h : BlockHeader} (e : ok h ≡ headed CG r a) where
  -- the definition's test of the header
  sound_is : header_ok CG (bytes r a 24) ≡ (leb 6 h.links_nr && leb (24 + 8 * h.links_nr + 32) h.block_len)
  unfolding header_ok is shape data_at
  sound_is = rw ((found CG r a e).links, (found CG r a e).len)

  pub cg_unsound : (leb 6 h.links_nr && leb (24 + 8 * h.links_nr + 32) h.block_len) ≡ false
      → ◌≡◌ {A = Out ℕ} (err (refusal 6 a h.links_nr h.block_len)) (parsed length CG r a)
  cg_unsound t = header_refused CG r a e (sound_is ∙ t) (found CG r a e).links (found CG r a e).len

  pub cg_sound : {x : Out ℕ} → (leb 6 h.links_nr && leb (24 + 8 * h.links_nr + 32) h.block_len) ≡ true
      → x ≡ need_or (length r) a (56 + 8 * h.links_nr) → x ≡ parsed length CG r a
  unfolding rest is shape data_at
  cg_sound t p =
      let z : 56 + 8 * h.links_nr ≡ 24 + 8 * links_nr (bytes r a 24) + 32 = omega (arith, (found CG r a e).links) in
      by_need CG r a e (sound_is ∙ t) (λ w. refl) (p ∙ ap (λ (m : ℕ). need_or (length r) a m) z)

both_true : (t u : Bool) → (t && u) ≡ true → t ≡ true
both_true true u e = refl
both_true false u e = e

-- the fields stand in a block's own bytes
pub cg_fits : {o : List ℕ} → IsOwn CG o → (104 ≤ length o) × (24 + 8 * num o 16 8 + 32 ≤ length o)
unfolding read_len rest is shape data_at header_ok
cg_fits x =
    let w = own x in
    let h : List ℕ = bytes x.recording x.at 24 in
    let l : length _ ≡ 24 + 8 * links_nr h + 32 + 0 = w.len in
    let s : 6 ≤ links_nr h = leb-true 6 (links_nr h) (both_true _ _ w.sound) in
    (omega (arith, l, s), omega (arith, l, w.links))

-- what the extent's answers rest on
pub ruleset extent_laws = (found, head_refused, cg_headed, cg_sound, cg_unsound)
