-- Kinds whose header tells how many bytes are read: ##CG, ##SI and ##DL. How many bytes are a block's own is the reader's
-- chain of tests with a number behind it; a parser then takes that part of the recording.
use mathlib.Core.Path.{◌≡◌, refl, sym, ap, ◌∙◌}
use mathlib.Core.Bool.{Bool, true, false, not, ◌||◌}
use mathlib.Core.List.{List}
use Prim.Native.Nat.{ℕ, ◌+◌, ◌-◌, ◌≤◌, min}
use native.Mathlib.Omega.{arith}
use lib.Dec.{leb, eqb}
use lib.ListN.{length, take, drop, length-take, length-drop}
use borrow.Author.Tests.{leb-true, le-leb}
use Rattle.mdf4.specs.Bytes.{bytes, num}
use Rattle.mdf4.specs.Act.{Refusal, Out, ok, err, refusal, and_then, check, Kind}
use Rattle.mdf4.specs.Kinds.{shape, block_len, links_nr, header_ok, rest, read_len, read_of, read_block, u64_max}
use Rattle.mdf4.proofs.Results.{never, check_ok}
use Rattle.mdf4.proofs.Fields.{part_bytes, num_bytes}
use Rattle.mdf4.proofs.Reading.{read_is, read_whole, need_least}
use Rattle.blocks.specs.declared.common.BlockHeader.{BlockHeader}
use Rattle.blocks.specs.Headers.{header_of, inside_or, marked_or}
use Rattle.blocks.specs.Parse.{parsed, IsOwn}
use Rattle.blocks.specs.Extents.{need_or}
use Rattle.blocks.proofs.Parse.{parsed_ok}

-- One length test

pub need_there : (len a n : ℕ) → n ≤ len - a → ◌≡◌ {A = Out ℕ} (ok n) (need_or len a n)
unfolding need_or and_then check
need_there len a n h = rw (le-leb n (len - a) h)

pub record Needed (len a n m : ℕ) : Type 0 where
  pub room : n ≤ len - a
  pub is : m ≡ n

pub need_ok : {len a n m : ℕ} → ok m ≡ need_or len a n → Needed len a n m
unfolding need_or
need_ok {len} {a} {n} {m} e =
    let p = check_ok _ _ _ m (sym e) in
    let q : ◌≡◌ {A = Out ℕ} (ok n) (ok m) = p.1 in
    record { room = leb-true n (len - a) p.0; is = cc }

-- The reader's tests

-- the first two: the header is there, and its mark is right where the kind's is tested
unfoldable pub headed : Kind → List ℕ → ℕ → Out BlockHeader
headed k r a =
    and_then (check (leb (a + (shape k).min_len) (length r)) (refusal 1 a (min (a + (shape k).min_len) u64_max) (length r))) (λ u.
    and_then (check (not (shape k).tested || eqb (num (bytes r a 24) 0 4) (shape k).mark) (refusal 5 a (shape k).mark (num (bytes r a 24) 0 4))) (λ u.
    ok (header_of (bytes r a 24))))

pub marked_headed : (k : Kind) (n m : ℕ) (r : List ℕ) (a : ℕ) → (shape k).mark ≡ m → (shape k).tested ≡ true → (shape k).min_len ≡ n → marked_or r a n m ≡ headed k r a
unfolding marked_or inside_or headed header_of and_then check
marked_headed k n m r a e f g = rw (e, f, g) (go (leb (a + n) (length r)))
  where
    go : (t : Bool)
        → and_then (and_then (check t (refusal 1 a (min (a + n) u64_max) (length r))) (λ u. ok (header_of (bytes r a 24))))
        (λ h. and_then (check (eqb h.id m) (refusal 5 a m h.id)) (λ u. ok h))
        ≡ and_then (check t (refusal 1 a (min (a + n) u64_max) (length r))) (λ u.
        and_then (check (eqb (num (bytes r a 24) 0 4) m) (refusal 5 a m (num (bytes r a 24) 0 4))) (λ u. ok (header_of (bytes r a 24))))
    go true = refl
    go false = refl

pub unmarked_headed : (k : Kind) (n : ℕ) (r : List ℕ) (a : ℕ) → (shape k).tested ≡ false → (shape k).min_len ≡ n → inside_or r a n ≡ headed k r a
unfolding inside_or headed header_of and_then check
unmarked_headed k n r a f g = rw (f, g)

-- all five, and how many bytes they leave
chain : (t u v w x : Bool) (e1 e5 e6 e2 e3 : Refusal) (o : List ℕ) (h : BlockHeader) (n m : ℕ) (y : ℕ → Out ℕ)
    → y n ≡ and_then (check x e3) (λ z. ok m)
    → (x ≡ true → length o ≡ m)
    → and_then
    (and_then (check t e1) (λ z. and_then (check u e5) (λ z. and_then (check v e6) (λ z. and_then (check w e2) (λ z. and_then (check x e3) (λ z. ok o))))))
    (λ o. ok (length o))
    ≡ and_then (and_then (check t e1) (λ z. and_then (check u e5) (λ z. ok h))) (λ h. and_then (check v e6) (λ z. and_then (and_then (check w e2) (λ z. ok n)) y))
unfolding and_then check
chain false u v w x e1 e5 e6 e2 e3 o h n m y p q = refl
chain true false v w x e1 e5 e6 e2 e3 o h n m y p q = refl
chain true true false w x e1 e5 e6 e2 e3 o h n m y p q = refl
chain true true true false x e1 e5 e6 e2 e3 o h n m y p q = refl
chain true true true true false e1 e5 e6 e2 e3 o h n m y p q = sym p
chain true true true true true e1 e5 e6 e2 e3 o h n m y p q = rw (p, q refl)

length_bytes : (r : List ℕ) (a n : ℕ) → n ≤ length r - a → length (bytes r a n) ≡ n
unfolding bytes
length_bytes r a n h = rw (length-take, length-drop) (omega arith)

-- a test that is made again holds again
twice : (t : Bool) (e : Refusal) (n : ℕ) (y : ℕ → Out ℕ) → y n ≡ and_then (check t e) (λ z. ok n)
    → and_then (check t e) (λ z. ok n) ≡ and_then (and_then (check t e) (λ z. ok n)) y
unfolding and_then check
twice true e n y p = sym p
twice false e n y p = refl

refused_both : {A : Type 0} (f : List ℕ → A) (m : Out (List ℕ)) {e : Refusal} → err e ≡ and_then m (λ o. ok (length o)) → ◌≡◌ {A = Out A} (err e) (and_then m (λ o. ok (f o)))
unfolding and_then
refused_both f (ok o) p = never (sym p)
refused_both f (err x) p = cc

read_least : (k : Kind) (r : List ℕ) (a : ℕ) → 24 ≤ read_len k r a
unfolding read_len
read_least k r a = omega (arith, need_least k (bytes r a 24))

-- a header that was found
pub record Found (r : List ℕ) (a : ℕ) (h : BlockHeader) : Type 0 where
  pub inside : a ≤ length r
  pub links : h.links_nr ≡ links_nr (bytes r a 24)
  pub len : h.block_len ≡ block_len (bytes r a 24)

-- o are the own bytes of the block at a
pub record Own (k : Kind) (r : List ℕ) (a : ℕ) (o : List ℕ) : Type 0 where
  pub inside : a + length o ≤ length r
  pub len : length o ≡ read_len k r a
  pub links : num o 16 8 ≡ links_nr (bytes r a 24)
  pub sound : header_ok k (bytes r a 24) ≡ true
  pub is : o ≡ bytes r a (length o)

module _ (k : Kind) (r : List ℕ) (a : ℕ) where
  -- both length tests
  unfoldable pub needs_or : Out ℕ
  needs_or = and_then (need_or (length r) a ((shape k).need (bytes r a 24))) (λ n. need_or (length r) a (n + rest k (bytes r a n)))

  own_is : parsed length k r a ≡ and_then (headed k r a) (λ h. and_then (check (header_ok k (bytes r a 24)) (refusal 6 a (links_nr (bytes r a 24)) (block_len (bytes r a 24)))) (λ u. needs_or))
  unfolding parsed read_block read_of read_len headed needs_or need_or
  own_is =
      let n : ℕ = (shape k).need (bytes r a 24) in
      let m : ℕ = n + rest k (bytes r a n) in
      chain _ _ _ _ (leb m (length r - a)) _ _ _ _ _ (bytes r a m) (header_of (bytes r a 24)) n m _ refl
      (λ e. length_bytes r a m (leb-true m (length r - a) e))

  pub head_refused : {e : Refusal} → err e ≡ headed k r a → ◌≡◌ {A = Out ℕ} (err e) (parsed length k r a)
  head_refused e = rw (own_is, ← e) (unfold and_then in refl)

  pub header_refused : {h : BlockHeader} {x y : ℕ} → ok h ≡ headed k r a → header_ok k (bytes r a 24) ≡ false → x ≡ links_nr (bytes r a 24) → y ≡ block_len (bytes r a 24)
      → ◌≡◌ {A = Out ℕ} (err (refusal 6 a x y)) (parsed length k r a)
  header_refused e f p q = rw (own_is, ← e, f, p, q) (unfold and_then check in refl)

  pub by_needs : {h : BlockHeader} {x : Out ℕ} → ok h ≡ headed k r a → header_ok k (bytes r a 24) ≡ true → x ≡ needs_or → x ≡ parsed length k r a
  by_needs e f p = rw (own_is, ← e, f, p) (unfold and_then check in refl)

  -- one test where the header alone tells the length
  pub by_need : {h : BlockHeader} {x : Out ℕ} → ok h ≡ headed k r a → header_ok k (bytes r a 24) ≡ true → ((w : List ℕ) → rest k w ≡ 0)
      → x ≡ need_or (length r) a ((shape k).need (bytes r a 24)) → x ≡ parsed length k r a
  unfolding needs_or need_or
  by_need e f z p =
      let n : ℕ = (shape k).need (bytes r a 24) in
      let y : n + 0 ≡ n = omega arith in
      by_needs e f (rw p (twice (leb n (length r - a)) _ n _ (rw (z (bytes r a n), y) refl)))

  -- n bytes, whatever the header says
  pub by_same : {h : BlockHeader} (n : ℕ) → ok h ≡ headed k r a → ((w : List ℕ) → (shape k).need w ≡ n) → ((w : List ℕ) → header_ok k w ≡ true) → ((w : List ℕ) → rest k w ≡ 0)
      → a + n ≤ length r → ◌≡◌ {A = Out ℕ} (ok n) (parsed length k r a)
  by_same n e p s z l = by_need e (s (bytes r a 24)) z (rw (p (bytes r a 24)) (need_there (length r) a n (omega arith)))

  -- the header that was found
  pub found : {h : BlockHeader} → ok h ≡ headed k r a → Found r a h
  unfolding headed header_of
  found {h = h} e =
      let p = check_ok _ _ _ h (sym e) in
      let q = check_ok _ _ _ h p.1 in
      let l : a + (shape k).min_len ≤ length r = leb-true (a + (shape k).min_len) (length r) p.0 in
      let y : ◌≡◌ {A = Out BlockHeader} (ok (header_of (bytes r a 24))) (ok h) = q.1 in
      let z : header_of (bytes r a 24) ≡ h = cc in
      record { inside = omega (arith, l); links = rw (← z) refl; len = rw (← z) refl }

  -- The parser behind it

  pub own_of : {o : List ℕ} → read_block k r a ≡ ok o → Own k r a o
  unfolding read_block read_of links_nr
  own_of {o = o} e =
      let w : a + read_len k r a ≤ length r = read_whole k r a o e in
      let p : o ≡ bytes r a (read_len k r a) = read_is k r a o e in
      let l : length (bytes r a (read_len k r a)) ≡ read_len k r a = length_bytes r a (read_len k r a) (omega arith) in
      let z : length o ≡ read_len k r a = ap (λ x. length x) p ∙ l in
      let i : o ≡ bytes r a (length o) = p ∙ ap (λ (n : ℕ). bytes r a n) (sym z) in
      let m : 24 ≤ length o = omega (arith, z, read_least k r a) in
      let e1 = (check_ok _ _ _ _ e).1 in
      let e2 = (check_ok _ _ _ _ e1).1 in
      record {
        inside = omega (arith, w, z);
        len = z;
        links = ap (λ x. num x 16 8) i ∙ num_bytes r a (length o) 16 8 (omega (arith, m)) ∙ sym (num_bytes r a 24 16 8 (omega arith));
        sound = (check_ok _ _ _ _ e2).0;
        is = i;
      }

  module _ {n : ℕ} (e : ok n ≡ parsed length k r a) where
    sized : (o : List ℕ) × (read_block k r a ≡ ok o) × (length o ≡ n)
    sized = parsed_ok length k r a (sym e)

    -- the part can be taken, and is all that is read
    pub part_inside : a + n ≤ length r
    part_inside = let p = sized in omega (arith, (own_of p.1).inside, p.2)

    pub part_read : read_block k r a ≡ ok (take (a + n - a) (drop a r))
    part_read =
        let p = sized in
        let z : p.0 ≡ bytes r a n = (own_of p.1).is ∙ ap (λ (i : ℕ). bytes r a i) p.2 in
        rw (part_bytes r a n) (p.1 ∙ ap ok z)

  module _ {A : Type 0} (f : List ℕ → A) where
    pub own_refused : {e : Refusal} → err e ≡ parsed length k r a → ◌≡◌ {A = Out A} (err e) (parsed f k r a)
    unfolding parsed
    own_refused e = refused_both f (read_block k r a) e

    pub own_read : {n : ℕ} {b : A} → ok n ≡ parsed length k r a → b ≡ f (take (a + n - a) (drop a r)) → ◌≡◌ {A = Out A} (ok b) (parsed f k r a)
    unfolding parsed
    own_read e q = rw (part_read e, q) (unfold and_then in refl)

-- a block's own bytes are those of its recording
pub own : {k : Kind} {o : List ℕ} (x : IsOwn k o) → Own k x.recording x.at o
own {k} x = own_of k x.recording x.at x.read
