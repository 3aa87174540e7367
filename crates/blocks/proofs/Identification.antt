-- Reading the identification: its refusals, and what is printed of it.
use mathlib.Core.Path.{◌≡◌, refl, sym, ap, ◌∙◌}
use mathlib.Core.Bool.{Bool, true, false}
use mathlib.Core.List.{List}
use Prim.Native.Nat.{ℕ, ◌+◌, ◌-◌, ◌≤◌, ◌<◌}
use native.Mathlib.Omega.{arith}
use lib.Dec.{eqb}
use lib.ListN.{length, take, drop, length-take}
use lib.Seq.{slice, take-take}
use borrow.Author.Tests.{le-leb, lt-leb, eq-eqb, ne_eqb}
use Rattle.std.proofs.lemmas.List.{drop-take}
use Rattle.utf8.specs.Utf8.{chunks}
use Rattle.utf8.specs.White.{trim, trim_end}
use Rattle.utf8.specs.Parts.{IsPart}
use Rattle.mdf4.specs.Bytes.{bytes, little, num}
use Rattle.mdf4.specs.Act.{Refusal, Out, ok, err, refusal, and_then, check, ID}
use Rattle.mdf4.specs.Kinds.{shape, is, header_ok, rest, read_len, read_of, read_block}
use Rattle.mdf4.specs.Version.{version}
use Rattle.mdf4.specs.Walk.{content_ok}
use Rattle.mdf4.proofs.Results.{and_then_ok}
use Rattle.mdf4.proofs.Fields.{bytes_bytes, num_bytes}
use Rattle.blocks.specs.IdentificationBlock.{Identification, identification_of, identification}
use Rattle.blocks.proofs.Parts.{cut_part, part_part}
use Rattle.blocks.proofs.Told.{ok_is, ok_only}

own_part : (r : List ℕ) (i w : ℕ) → i + w ≤ 64 → bytes (bytes r 0 64) i w ≡ take w (drop i r)
unfolding bytes
own_part r i w h = let z : 0 + i ≡ i = omega arith in rw z at (bytes_bytes r 0 64 i w h)

-- the fields
pub identified_is : (r v p : List ℕ) → chunks v ≡ trim (chunks (take 8 (drop 8 r))) → chunks p ≡ trim_end (chunks (take 8 (drop 16 r)))
    → {x y z : ℕ} → x ≡ num r 28 2 → y ≡ num r 60 2 → z ≡ num r 62 2
    → ◌≡◌ {A = Identification} (record { version = chunks v; program = chunks p; version_number = x; standard_unfinalized_flags = y; custom_unfinalized_flags = z })
    (identification_of (bytes r 0 64))
unfolding identification_of
identified_is r v p ev ep ex ey ez =
    rw (
      ev,
      ep,
      ex,
      ey,
      ez,
      own_part r 8 8 (omega arith),
      own_part r 16 8 (omega arith),
      num_bytes r 0 64 28 2 (omega arith),
      num_bytes r 0 64 60 2 (omega arith),
      num_bytes r 0 64 62 2 (omega arith),
    )

pub version_part : {r v : List ℕ} → 64 ≤ length r → IsPart (take 8 (drop 8 r)) v → IsPart r v
version_part {r} l q = (part_part (cut_part r 8 16 (omega arith) (omega arith)) q).0

module _ (r : List ℕ) {p : List ℕ} (l : 64 ≤ length r) (e : p ≡ take (length p) (take 8 (drop 16 r))) where
  short : length p ≤ 8
  short = omega (arith, simp (length-take, length-take) at (ap (λ x. length x) e))

  pub program_high : 16 + length p ≤ length r
  program_high = omega (arith, short)

  pub program_is : p ≡ slice 16 (16 + length p) r
  program_is = e ∙ take-take (length p) 8 (drop 16 r) short ∙ sym (drop-take 16 (length p) r)

-- the steps in a row
chain : {A : Type 0} (t : Bool) (e : Refusal) (v : Out ℕ) (x : A)
    → and_then (and_then (check t e) (λ u. and_then v (λ n. ok tt))) (λ (u : Unit {0}). ok x) ≡ and_then (check t e) (λ u. and_then v (λ n. ok x))
unfolding and_then check
chain false e v x = refl
chain true e (ok n) x = refl
chain true e (err d) x = refl

module _ (r : List ℕ) where
  pub ident_short : length r < 64 → err (refusal 1 0 64 (length r)) ≡ identification r
  unfolding identification read_block read_of shape and_then check
  ident_short h = rw (lt-leb 64 (length r) h)

  module _ (long : 64 ≤ length r) where
    own : read_block ID r 0 ≡ ok (bytes r 0 64)
    unfolding read_block read_of read_len shape is header_ok rest and_then check
    own = let z : length r - 0 ≡ length r = omega arith in rw (z, le-leb 64 (length r) long)

    steps : identification r
        ≡ and_then (check (eqb (num r 0 8) 0x202020202046444d) (refusal 2 0 0 0)) (λ u. and_then (version (take 8 (drop 8 r))) (λ n. ok (identification_of (bytes r 0 64))))
    unfolding identification content_ok is shape little and_then
    steps =
        rw (own, num_bytes r 0 64 0 8 (omega arith), own_part r 8 8 (omega arith))
        (chain (eqb (num r 0 8) 0x202020202046444d) (refusal 2 0 0 0) (version (take 8 (drop 8 r))) (identification_of (bytes r 0 64)))

    pub ident_other : (num r 0 8 ≡ 0x202020202046444d → ⊥) → err (refusal 2 0 0 0) ≡ identification r
    unfolding and_then check
    ident_other n = rw (steps, ne_eqb (num r 0 8) 0x202020202046444d n)

    module _ (mark : num r 0 8 ≡ 0x202020202046444d) where
      pub ident_refused : {e : Refusal} → err e ≡ version (take 8 (drop 8 r)) → err e ≡ identification r
      unfolding and_then check
      ident_refused v = rw (steps, eq-eqb (num r 0 8) 0x202020202046444d mark, ← v)

      pub ident_read : {n : ℕ} {x : Identification} → ok n ≡ version (take 8 (drop 8 r)) → x ≡ identification_of (bytes r 0 64) → ok x ≡ identification r
      unfolding and_then check
      ident_read v e = rw (steps, eq-eqb (num r 0 8) 0x202020202046444d mark, ← v, e)

  -- what the walk asks of the identification is the same
  pub ident_passed : {x : Identification} → ok x ≡ identification r → (o : List ℕ) × (read_block ID r 0 ≡ ok o) × (content_ok ID o ≡ ok tt) × (identification_of o ≡ x)
  unfolding identification
  ident_passed {x} e =
      let p = and_then_ok (read_block ID r 0) _ x (sym e) in
      let q = and_then_ok (content_ok ID p.0) _ x p.2 in
      (p.0, p.1, q.1, ok_is q.2)

  pub ident_stopped : {e : Refusal} → err e ≡ identification r → {A : Type 0} (g : List ℕ → Out A) → and_then (read_block ID r 0) (λ o. and_then (content_ok ID o) (λ u. g o)) ≡ err e
  unfolding identification and_then
  ident_stopped {e} q {A} g = go (read_block ID r 0) (sym q)
    where
      go : (m : Out (List ℕ)) → and_then m (λ o. and_then (content_ok ID o) (λ u. ok (identification_of o))) ≡ err e → ◌≡◌ {A = Out A} (and_then m (λ o. and_then (content_ok ID o) (λ u. g o))) (err e)
      go (ok o) q = let p = ok_only (content_ok ID o) (λ u. identification_of o) e q in rw p
      go (err d) q = let z : ◌≡◌ {A = Refusal} d e = cc in rw z
