-- The length tests of a data list.
use mathlib.Core.Path.{◌≡◌, refl, sym, ap, ◌∙◌}
use mathlib.Core.Bool.{Bool, true, false, cond}
use mathlib.Core.List.{List}
use Prim.Native.Nat.{ℕ, ◌+◌, ◌*◌, ◌%◌, ◌≤◌, ◌<◌}
use native.Mathlib.Omega.{arith}
use lib.Dec.{eqb}
use lib.ListN.{length}
use borrow.Author.Tests.{leb-true, le-leb, lt-leb, eq-eqb}
use Rattle.mdf4.specs.Bytes.{bytes, num}
use Rattle.mdf4.specs.Act.{Refusal, Out, ok, err, refusal, and_then, DL}
use Rattle.mdf4.specs.Kinds.{shape, is, links_nr, data_at, header_ok, rest, read_len}
use Rattle.mdf4.proofs.Fields.{num_bytes}
use Rattle.blocks.specs.declared.common.BlockHeader.{BlockHeader}
use Rattle.blocks.specs.declared.data_list_block.DataListBlock.{DataListBlock}
use Rattle.blocks.specs.Headers.{inside_or}
use Rattle.blocks.specs.Parse.{parsed, IsOwn}
use Rattle.blocks.specs.Extents.{need_or}
use Rattle.blocks.specs.DataListBlock.{data_list_block_of, behind_links, ListFits}
use Rattle.blocks.proofs.Extents.{headed, unmarked_headed, found, header_refused, by_needs, needs_or, need_ok, own, own_of, head_refused}
use Rattle.blocks.proofs.Parse.{parsed_ok}

pub dl_headed : (r : List ℕ) (a : ℕ) → inside_or r a 24 ≡ headed DL r a
unfolding shape
dl_headed r a = unmarked_headed DL 24 r a refl refl

-- what the flags ask for, of the recording: a whole number of words
eights : (b : Bool) (x : ℕ) → cond b 8 (8 * x) ≡ 8 * cond b 1 x
eights true x = refl
eights false x = refl

rest_is : (r : List ℕ) (a n : ℕ) → n ≡ num r (a + 16) 8
    → rest DL (bytes r a (24 + 8 * n + 8)) ≡ 8 * cond (eqb (num r (a + 24 + 8 * n) 1 % 2) 1) 1 (num r (a + 24 + 8 * n + 4) 4)
unfolding rest is shape data_at links_nr
rest_is r a n e =
    let l : num (bytes r a (24 + 8 * n + 8)) 16 8 ≡ n = num_bytes r a (24 + 8 * n + 8) 16 8 (omega arith) ∙ sym e in
    let p : a + (24 + 8 * n) ≡ a + 24 + 8 * n = omega arith in
    let q : a + (24 + 8 * n + 4) ≡ a + 24 + 8 * n + 4 = omega arith in
    rw (l, num_bytes r a (24 + 8 * n + 8) (24 + 8 * n) 1 (omega arith), num_bytes r a (24 + 8 * n + 8) (24 + 8 * n + 4) 4 (omega arith), p, q)
    (eights (eqb (num r (a + 24 + 8 * n) 1 % 2) 1) (num r (a + 24 + 8 * n + 4) 4))

-- steps that are the same where they are taken
same_then : (m : Out ℕ) (f g : ℕ → Out ℕ) → ((x : ℕ) → ok x ≡ m → f x ≡ g x) → and_then m f ≡ and_then m g
unfolding and_then
same_then (ok x) f g p = p x refl
same_then (err e) f g p = refl

module _ (r : List ℕ) (a : ℕ) {h : BlockHeader} (e : ok h ≡ headed DL r a) where
  links_is : h.links_nr ≡ num r (a + 16) 8
  unfolding links_nr
  links_is = (found DL r a e).links ∙ num_bytes r a 24 16 8 (omega arith)

  pub dl_unsound : h.links_nr ≡ 0 → ◌≡◌ {A = Out ℕ} (err (refusal 6 a h.links_nr h.block_len)) (parsed length DL r a)
  unfolding header_ok is shape
  dl_unsound z = header_refused DL r a e (lt-leb 1 (links_nr (bytes r a 24)) (omega (arith, (found DL r a e).links))) (found DL r a e).links (found DL r a e).len

  pub dl_sound : {x : Out ℕ} → 0 < h.links_nr → x ≡ behind_links r a h.links_nr → x ≡ parsed length DL r a
  unfolding header_ok is shape needs_or behind_links data_at
  dl_sound z p =
      let n : ℕ = h.links_nr in
      let l : n ≡ links_nr (bytes r a 24) = (found DL r a e).links in
      let s : 32 + 8 * n ≡ 24 + 8 * n + 8 = omega arith in
      by_needs DL r a e (le-leb 1 (links_nr (bytes r a 24)) (omega (arith, l)))
      (rw (p, ← l, s) (same_then (need_or (length r) a (24 + 8 * n + 8)) _ _ (λ m q.
      rw ((need_ok q).is, rest_is r a n links_is))))

-- the fields stand in a block's own bytes
pub dl_fits : {o : List ℕ} → IsOwn DL o → ListFits o
unfolding read_len header_ok is shape data_at links_nr
dl_fits {o} x =
    let w = own x in
    let r : List ℕ = x.recording in
    let a : ℕ = x.at in
    let k : ℕ = num (bytes r a 24) 16 8 in
    let z : length o ≡ 24 + 8 * k + 8 + rest DL (bytes r a (24 + 8 * k + 8)) = w.len in
    let t : rest DL (bytes r a (24 + 8 * k + 8)) ≡ 8 * cond (eqb (num r (a + 24 + 8 * k) 1 % 2) 1) 1 (num r (a + 24 + 8 * k + 4) 4) = rest_is r a k (num_bytes r a 24 16 8 (omega arith)) in
    let s : 1 ≤ k = leb-true 1 k w.sound in
    let p : a + (24 + 8 * k) ≡ a + 24 + 8 * k = omega arith in
    let f : num o (24 + 8 * k) 1 ≡ num r (a + 24 + 8 * k) 1 =
    ap (λ y. num y (24 + 8 * k) 1) w.is ∙ num_bytes r a (length o) (24 + 8 * k) 1 (omega (arith, z)) ∙ ap (λ (m : ℕ). num r m 1) p in
    let u : num r (a + 24 + 8 * k) 1 % 2 ≡ 1 → 24 + 8 * k + 16 ≤ length o =
    λ b. let c : rest DL (bytes r a (24 + 8 * k + 8)) ≡ 8 * 1 = rw (eq-eqb _ 1 b) at t in omega (arith, z, c) in
    record { next = omega (arith, z, s); flags = omega (arith, z, w.links); equal = rw (w.links, f) u }

-- a link of a block that was parsed can be read
pub link_inside : (r : List ℕ) (a i : ℕ) {b : DataListBlock} → parsed data_list_block_of DL r a ≡ ok b → i < b.links_nr → a + 24 + 8 * i + 8 ≤ length r
unfolding read_len shape data_at data_list_block_of links_nr
link_inside r a i {b = b} e l =
    let p = parsed_ok data_list_block_of DL r a e in
    let w = own_of DL r a p.1 in
    let n : b.links_nr ≡ num p.0 16 8 = ap (λ x. x.links_nr) (sym p.2) in
    let z : length p.0 ≡ 24 + 8 * num (bytes r a 24) 16 8 + 8 + rest DL (bytes r a (24 + 8 * num (bytes r a 24) 16 8 + 8)) = w.len in
    omega (arith, l, n, w.links, z, w.inside)

-- The code's two length tests

pub links_refused : (r : List ℕ) (a n : ℕ) {e : Refusal} → err e ≡ need_or (length r) a (32 + 8 * n) → ◌≡◌ {A = Out ℕ} (err e) (behind_links r a n)
unfolding behind_links and_then
links_refused r a n e = rw (← e)

pub links_there : (r : List ℕ) (a n : ℕ) {m f d w : ℕ} {x : Out ℕ} → ok m ≡ need_or (length r) a (32 + 8 * n)
    → f ≡ num r (a + 24 + 8 * n) 1 → d ≡ num r (a + 24 + 8 * n + 4) 4 → w ≡ cond (eqb (f % 2) 1) 1 d
    → x ≡ need_or (length r) a (m + 8 * w) → x ≡ behind_links r a n
unfolding behind_links and_then
links_there r a n e p q s t = rw (← e, t, s, p, q)

-- what the extent's answers rest on
pub ruleset extent_laws = (found, head_refused, dl_headed, dl_sound, dl_unsound)

pub ruleset links_laws = (need_ok, links_refused, links_there)
