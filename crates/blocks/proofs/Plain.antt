-- Kinds of which the header alone is read, whatever its mark: ##DT and its like, ##SD, and unknown blocks. `BlockHeader::parse` with 24
-- bytes is their parser.
use mathlib.Core.Path.{◌≡◌, refl, sym, ◌∙◌}
use mathlib.Core.Bool.{true, false}
use mathlib.Core.List.{List}
use Prim.Native.Nat.{ℕ, ◌+◌}
use lib.ListN.{length}
use borrow.Author.Tests.{leb-true}
use Rattle.mdf4.specs.Bytes.{bytes}
use Rattle.mdf4.specs.Act.{Out, ok, err, Kind, DT, SD, UT, UD}
use Rattle.mdf4.specs.Kinds.{shape, is, header_ok, rest}
use Rattle.mdf4.proofs.Results.{check_ok}
use Rattle.mdf4.proofs.Fields.{part_bytes}
use Rattle.blocks.specs.declared.common.BlockHeader.{BlockHeader}
use Rattle.blocks.specs.Headers.{header_of, inside_or}
use Rattle.blocks.specs.Parse.{parsed}
use Rattle.blocks.proofs.Extents.{headed, unmarked_headed, head_refused, by_same, own_refused, own_read}

pub record Plain (k : Kind) : Type 0 where
  pub tested : (shape k).tested ≡ false
  pub least : (shape k).min_len ≡ 24
  pub need : (h : List ℕ) → (shape k).need h ≡ 24
  pub sound : (h : List ℕ) → header_ok k h ≡ true
  pub none : (w : List ℕ) → rest k w ≡ 0

pub plain_dt : Plain DT
unfolding shape is header_ok rest
plain_dt = record { tested = refl; least = refl; need = λ h. refl; sound = λ h. refl; none = λ w. refl }

pub plain_sd : Plain SD
unfolding shape is header_ok rest
plain_sd = record { tested = refl; least = refl; need = λ h. refl; sound = λ h. refl; none = λ w. refl }

pub plain_ut : Plain UT
unfolding shape is header_ok rest
plain_ut = record { tested = refl; least = refl; need = λ h. refl; sound = λ h. refl; none = λ w. refl }

pub plain_ud : Plain UD
unfolding shape is header_ok rest
plain_ud = record { tested = refl; least = refl; need = λ h. refl; sound = λ h. refl; none = λ w. refl }

module _ (k : Kind) (x : Plain k) (r : List ℕ) (a : ℕ) where
  headed_is : inside_or r a 24 ≡ headed k r a
  headed_is = unmarked_headed k 24 r a x.tested x.least

  answered : (o : Out BlockHeader) → o ≡ inside_or r a 24 → o ≡ parsed header_of k r a
  unfolding inside_or
  answered (err e) p = own_refused k r a header_of (head_refused k r a (p ∙ headed_is))
  answered (ok h) p =
      let q = check_ok _ _ _ h (sym p) in
      let z : ◌≡◌ {A = Out BlockHeader} (ok (header_of (bytes r a 24))) (ok h) = q.1 in
      let y : h ≡ header_of (bytes r a 24) = cc in
      own_read k r a header_of (by_same k r a 24 (p ∙ headed_is) x.need x.sound x.none (leb-true (a + 24) (length r) q.0)) (rw (part_bytes r a 24) y)

  pub plain_header : parsed header_of k r a ≡ inside_or r a 24
  plain_header = sym (answered (inside_or r a 24) refl)
