-- Reading a text, ##TX or ##MD: the header's refusal, the block's, and the part of the recording that holds the text.
use mathlib.Core.Path.{◌≡◌, refl, sym, ap, ◌∙◌}
use mathlib.Core.Bool.{Bool, true, false}
use mathlib.Core.List.{List}
use Prim.Native.Nat.{ℕ, ◌+◌, ◌-◌, ◌^◌, ◌≤◌, ◌<◌, max, min}
use native.Mathlib.Omega.{arith}
use lib.Dec.{leb}
use lib.ListN.{length, take, drop}
use lib.Seq.{slice, drop-drop}
use borrow.Author.Tests.{leb-true, le-leb, lt-leb}
use Rattle.utf8.specs.Nul.{before_nul, trim_nuls}
use Rattle.utf8.specs.Parts.{IsPart}
use Rattle.mdf4.specs.Bytes.{bytes}
use Rattle.mdf4.specs.Act.{Refusal, Out, ok, err, refusal, and_then, check, Kind, TX, MD}
use Rattle.mdf4.specs.Kinds.{shape, is, header_ok, rest, read_len, read_of, read_block, block_len}
use Rattle.mdf4.specs.Describe.{tx_text, md_text}
use Rattle.mdf4.proofs.Results.{check_ok}
use Rattle.mdf4.proofs.Fields.{slice_bytes, num_bytes}
use Rattle.blocks.specs.declared.common.BlockHeader.{BlockHeader}
use Rattle.blocks.specs.Headers.{header_of, inside_or}
use Rattle.blocks.specs.TextBlock.{TextAt, behind_header}
use Rattle.blocks.proofs.Told.{ok_is}
use Rattle.blocks.proofs.Parts.{cut_slice, part_part}

-- both kinds are read alike
pub md_read : (r : List ℕ) (a : ℕ) → read_block TX r a ≡ read_block MD r a
unfolding read_block read_of read_len shape is header_ok rest and_then check
md_read r a = refl

-- the reader's five tests, and the two that are left of them
chain : (t : Bool) (h : BlockHeader) (v : BlockHeader → Bool) (o : BlockHeader → List ℕ) (e1 : Refusal) (e2 : BlockHeader → Refusal)
    → and_then (check t e1) (λ x. and_then (check (v h) (e2 h)) (λ x. and_then (check (v h) (e2 h)) (λ x. ok (o h))))
    ≡ and_then (and_then (check t e1) (λ x. ok h)) (λ h. and_then (check (v h) (e2 h)) (λ x. ok (o h)))
unfolding and_then check
chain false h v o e1 e2 = refl
chain true h v o e1 e2 = twice (v h)
  where
    twice : (t : Bool) → and_then (check t (e2 h)) (λ x. and_then (check t (e2 h)) (λ x. ok (o h))) ≡ and_then (check t (e2 h)) (λ x. ok (o h))
    twice true = refl
    twice false = refl

module _ (r : List ℕ) (a : ℕ) where
  -- a block's length stands in its header
  pub len_is : (n : ℕ) → 24 ≤ n → block_len (bytes r a n) ≡ block_len (bytes r a 24)
  unfolding block_len
  len_is n l = rw (num_bytes r a n 8 8 (omega arith), num_bytes r a 24 8 8 (omega arith))

  -- what is asked for once the header is there
  abbrev whole_or : BlockHeader → Out (List ℕ)
  whole_or h =
      and_then (check (leb (max 24 h.block_len) (length r - a)) (refusal 1 a (min (max 24 h.block_len) (2 ^ 64 - 1)) (length r - a))) (λ u.
      ok (bytes r a (max 24 h.block_len)))

  read_tx : read_block TX r a ≡ and_then (inside_or r a 24) whole_or
  unfolding read_block read_of read_len shape is header_ok rest inside_or header_of
  read_tx =
      let z : max 24 (block_len (bytes r a 24)) + 0 ≡ max 24 (block_len (bytes r a 24)) = omega arith in
      rw z (unfold and_then check in chain (leb (a + 24) (length r)) (header_of (bytes r a 24)) (λ h. leb (max 24 h.block_len) (length r - a)) (λ h. bytes r a (max 24 h.block_len)) _ _)

  -- what stands behind the header
  pub tail : (n : ℕ) → slice (a + 24) (a + n) r ≡ drop 24 (bytes r a n)
  tail n = rw (← (slice_bytes r a n)) (sym (drop-drop 24 a (take (a + n) r)))

  -- the header
  pub range_refused : {e : Refusal} → err e ≡ inside_or r a 24 → read_block TX r a ≡ err e
  unfolding and_then
  range_refused e = rw (read_tx, ← e)

  module _ {h : BlockHeader} (e : ok h ≡ inside_or r a 24) where
    pub header_inside : a + 24 ≤ length r
    unfolding inside_or
    header_inside = leb-true (a + 24) (length r) (check_ok _ _ _ _ (sym e)).0

    long : h.block_len ≡ block_len (bytes r a 24)
    unfolding inside_or header_of
    long =
        let q : header_of (bytes r a 24) ≡ h = ok_is (check_ok _ _ _ _ (sym e)).1 in
        rw (← q)

    -- the block
    pub range_short : {x : ℕ} → x ≡ max h.block_len 24 → x < 2 ^ 64 → length r - a < x → read_block TX r a ≡ err (refusal 1 a x (length r - a))
    unfolding and_then check
    range_short {x} q f l =
        let m : min x (2 ^ 64 - 1) ≡ x = omega arith in
        let z : max 24 h.block_len ≡ x = omega arith in
        rw (read_tx, ← e, z, lt-leb x (length r - a) l, m)

    range_own : {x : ℕ} → x ≡ max h.block_len 24 → x ≤ length r - a → read_block TX r a ≡ ok (bytes r a x)
    unfolding and_then check
    range_own {x} q l =
        let z : max 24 h.block_len ≡ x = omega arith in
        rw (read_tx, ← e, z, le-leb x (length r - a) l)

    pub range_read : {x : ℕ} → x ≡ max h.block_len 24 → x ≤ length r - a → TextAt TX behind_header r a h.block_len (take (a + x - (a + 24)) (drop (a + 24) r))
    range_read {x} q l =
        let c : take (a + x - (a + 24)) (drop (a + 24) r) ≡ slice (a + 24) (a + x) r = cut_slice r (a + 24) (a + x) (omega arith) in
        record {
          own = bytes r a x;
          read = range_own q l;
          long = long ∙ sym (len_is x (omega arith));
          part = record { from = a + 24; to = a + x; order = omega arith; high = omega (arith, header_inside); is = c };
          low = omega arith;
          is = c ∙ tail x;
        }

-- a text of the kind k, cut out of what stands behind the header
module _ {r : List ℕ} {a l : ℕ} {t u : List ℕ} (x : TextAt TX behind_header r a l t) (p : IsPart t u) where
  text_at : (k : Kind) → read_block TX r a ≡ read_block k r a → (f : List ℕ → List ℕ) → u ≡ f t → TextAt k (λ o. f (drop 24 o)) r a l u
  text_at k same f e = record {
    own = x.own;
    read = rw (← same) x.read;
    long = x.long;
    part = (part_part x.part p).0;
    low = omega (arith, x.low, (part_part x.part p).1);
    is = e ∙ ap f x.is;
  }

  pub tx_at : u ≡ before_nul t → TextAt TX tx_text r a l u
  unfolding tx_text
  tx_at e = text_at TX refl before_nul e

  pub md_at : u ≡ trim_nuls t → TextAt MD md_text r a l u
  unfolding md_text
  md_at e = text_at MD (md_read r a) trim_nuls e
