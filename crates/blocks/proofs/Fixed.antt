-- Kinds of which the same number of bytes is read whatever the header says: ##HD, ##DG and ##CN.
use mathlib.Core.Path.{◌≡◌, refl, sym, ◌∙◌}
use native.Mathlib.Omega.{arith}
use mathlib.Core.List.{List}
use Prim.Native.Nat.{ℕ, ◌+◌, ◌≤◌}
use lib.ListN.{length}
use borrow.Author.Tests.{leb-true}
use Rattle.mdf4.specs.Bytes.{bytes, little}
use Rattle.mdf4.specs.Act.{Refusal, Out, ok, err, Kind, HD, DG, CN}
use Rattle.mdf4.specs.Kinds.{shape, is, header_ok, rest, read_len}
use Rattle.mdf4.proofs.Results.{and_then_ok, check_ok}
use Rattle.blocks.specs.declared.common.BlockHeader.{BlockHeader}
use Rattle.blocks.specs.Headers.{inside_or, marked_or}
use Rattle.blocks.specs.Parse.{parsed, IsOwn}
use Rattle.blocks.specs.Extents.{IsFixed}
use Rattle.blocks.proofs.Extents.{headed, marked_headed, head_refused, by_same, own}

pub fixed_hd : IsFixed HD 104 0x44482323
unfolding shape is header_ok rest little
fixed_hd = record { mark = refl; tested = refl; least = refl; need = λ h. refl; sound = λ h. refl; none = λ w. refl }

pub fixed_dg : IsFixed DG 64 0x47442323
unfolding shape is header_ok rest little
fixed_dg = record { mark = refl; tested = refl; least = refl; need = λ h. refl; sound = λ h. refl; none = λ w. refl }

pub fixed_cn : IsFixed CN 160 0x4e432323
unfolding shape is header_ok rest little
fixed_cn = record { mark = refl; tested = refl; least = refl; need = λ h. refl; sound = λ h. refl; none = λ w. refl }

module _ (k : Kind) {n m : ℕ} (x : IsFixed k n m) (r : List ℕ) (a : ℕ) where
  headed_is : marked_or r a n m ≡ headed k r a
  headed_is = marked_headed k n m r a x.mark x.tested x.least

  pub fixed_refused : {e : Refusal} → err e ≡ marked_or r a n m → ◌≡◌ {A = Out ℕ} (err e) (parsed length k r a)
  fixed_refused e = head_refused k r a (e ∙ headed_is)

  -- the bytes are there
  fixed_inside : {h : BlockHeader} → ok h ≡ marked_or r a n m → a + n ≤ length r
  unfolding marked_or inside_or
  fixed_inside {h = h} e =
      let p = and_then_ok (inside_or r a n) _ h (sym e) in
      leb-true (a + n) (length r) (check_ok _ _ _ _ (unfold inside_or in p.1)).0

  pub fixed_read : {h : BlockHeader} → ok h ≡ marked_or r a n m → ◌≡◌ {A = Out ℕ} (ok n) (parsed length k r a)
  fixed_read e = by_same k r a n (e ∙ headed_is) x.need x.sound x.none (fixed_inside e)

-- such a block has n own bytes
pub fixed_size : {k : Kind} {n m : ℕ} {o : List ℕ} → IsFixed k n m → IsOwn k o → length o ≡ n
unfolding read_len
fixed_size {k} x y =
    let h : List ℕ = bytes y.recording y.at 24 in
    omega (arith, (own y).len, x.need h, x.none (bytes y.recording y.at ((shape k).need h)))
