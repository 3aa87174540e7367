-- A channel's name, case by case.
use mathlib.Core.Path.{◌≡◌, refl, sym, ◌∙◌}
use mathlib.Core.Bool.{Bool, true, false, cond, ◌||◌, and-false}
use mathlib.Core.List.{List, []}
use Prim.Native.Nat.{ℕ, ◌+◌, ◌-◌, ◌^◌, ◌≤◌, ◌<◌, max}
use native.Mathlib.Omega.{arith}
use lib.Dec.{leb, ltb, eqb}
use lib.ListN.{length, take, drop, length-take, length-drop}
use lib.Seq.{take_all}
use borrow.Author.Tests.{le-leb, lt-leb, lt-ltb, le-ltb, eq-eqb, ne_eqb, leb-true, leb-false, ltb-true, ltb-false}
use Rattle.utf8.specs.Utf8.{chunks_after, chunks, shown_all, lossy}
use Rattle.utf8.specs.White.{drop_end}
use Rattle.utf8.specs.Nul.{trim_start_nuls, trim_end_nuls, trim_nuls}
use Rattle.mdf4.specs.Bytes.{bytes, little, num}
use Rattle.mdf4.specs.Act.{Refusal, Out, ok, err, refusal, and_then, check, Link, TX}
use Rattle.mdf4.specs.Kinds.{shape, block_len, make_link, leads_to, name_is_text, name_head, name_check, name_len}
use Rattle.mdf4.specs.Describe.{name_bytes, name_text}
use Rattle.mdf4.proofs.Bytes.{or_right}
use Rattle.mdf4.proofs.Results.{and_then_ok, never}
use Rattle.mdf4.proofs.Fields.{part_bytes, num_bytes}
use Rattle.mdf4.proofs.ShortNames.{name_inside, head_is, name_accepted, short_accepted, short_empty}
use Rattle.blocks.specs.declared.common.BlockHeader.{BlockHeader}
use Rattle.blocks.specs.Headers.{header_of}
use Rattle.channel_name.specs.Name.{name_at}
use Rattle.blocks.proofs.Told.{ok_is, ok_only}
use Rattle.blocks.proofs.Parts.{cut_slice}
use Rattle.blocks.proofs.Texts.{len_is, tail}

nameless : name_text [] ≡ []
unfolding name_text block_len num bytes little lossy chunks chunks_after shown_all trim_nuls trim_end_nuls trim_start_nuls drop_end
nameless = refl

-- no ##TX with 24 bytes inside
no_name : (r : List ℕ) (l : Link) → (eqb l.target 0 || ltb (l.target + 24) (2 ^ 64)) ≡ true → name_is_text (length r) l ≡ false → ok [] ≡ name_at r l
unfolding name_at name_check name_bytes and_then check
no_name r l t n = rw (t, n, nameless)

pub null_name : (r : List ℕ) {a : ℕ} → a ≡ 0 → ok [] ≡ name_at r (make_link r a)
unfolding make_link name_is_text leads_to shape little
null_name r e = rw e (no_name r (make_link r 0) refl refl)

module _ (r : List ℕ) (a : ℕ) (some : a ≡ 0 → ⊥) where
  pub name_past : 2 ^ 64 ≤ a + 24 → ◌≡◌ {A = Out (List ℕ)} (err (refusal 7 a a 24)) (name_at r (make_link r a))
  unfolding name_at name_check make_link and_then check
  name_past h = rw (ne_eqb a 0 some, le-ltb (a + 24) (2 ^ 64) h)

  module _ (fits : a + 24 < 2 ^ 64) where
    sum_ok : (eqb a 0 || ltb (a + 24) (2 ^ 64)) ≡ true
    sum_ok = or_right (eqb a 0) _ (lt-ltb (a + 24) (2 ^ 64) fits)

    pub name_outside : length r < a + 24 → ok [] ≡ name_at r (make_link r a)
    unfolding make_link name_is_text
    name_outside h = no_name r (make_link r a) sum_ok (rw (lt-leb (a + 24) (length r) h) (and-false (leads_to (shape TX).mark (make_link r a))))

    module _ (inside : a + 24 ≤ length r) {h : BlockHeader} (head : h ≡ header_of (take (a + 24 - a) (drop a r))) where
      headed : header_of (bytes r a 24) ≡ h
      headed = sym (head ∙ rw (part_bytes r a 24))

      mark_is : h.id ≡ num r a 4
      unfolding header_of
      mark_is =
          let z : a + 0 ≡ a = omega arith in
          rw (← headed) (rw z at (num_bytes r a 24 0 4 (omega arith)))

      not_text : (h.id ≡ 0x58542323 → ⊥) → name_is_text (length r) (make_link r a) ≡ false
      unfolding name_is_text leads_to make_link shape little
      not_text n = rw (ne_eqb a 0 some, le-leb (a + 4) (length r) (omega arith), ne_eqb (1 + num r a 4) 0x58542324 (λ e. n (omega (arith, mark_is))))

      pub name_other : (h.id ≡ 0x58542323 → ⊥) → ok [] ≡ name_at r (make_link r a)
      unfolding make_link
      name_other n = no_name r (make_link r a) sum_ok (not_text n)

      module _ (text : h.id ≡ 0x58542323) where
        is_text : name_is_text (length r) (make_link r a) ≡ true
        unfolding name_is_text leads_to make_link shape little
        is_text =
            rw (ne_eqb a 0 some, le-leb (a + 4) (length r) (omega arith), le-leb (a + 24) (length r) inside, eq-eqb (1 + num r a 4) 0x58542324 (omega (arith, mark_is)))

        abbrev long : ℕ
        long = h.block_len

        -- what is left to ask, and the bytes that are read
        checked : name_at r (make_link r a)
            ≡ and_then (check (ltb (a + long) (2 ^ 64)) (refusal 7 a a long))
            (λ u. ok (name_text (bytes r a (cond (leb (a + max 24 long) (length r)) (max 24 long) 24))))
        unfolding name_at name_check name_bytes name_head name_len make_link header_of and_then check
        checked = rw (is_text, sum_ok, ← headed)

        pub name_long : 2 ^ 64 ≤ a + long → ◌≡◌ {A = Out (List ℕ)} (err (refusal 7 a a long)) (name_at r (make_link r a))
        unfolding and_then check
        name_long l = rw (checked, le-ltb (a + long) (2 ^ 64) l)

        module _ (sum : a + long < 2 ^ 64) where
          long_is : (n : ℕ) → 24 ≤ n → block_len (bytes r a n) ≡ long
          unfolding header_of
          long_is n l = rw (← headed) (len_is r a n l)

          length_is : (n : ℕ) → a + n ≤ length r → length (bytes r a n) ≡ n
          unfolding bytes
          length_is n l = rw (length-take, length-drop) (omega arith)

          name_short : long < 24 → ok [] ≡ name_at r (make_link r a)
          unfolding name_at and_then make_link
          name_short l =
              let d : block_len (name_head r (make_link r a)) < 24 = rw (head_is r (make_link r a) is_text, long_is 24 (omega arith)) l in
              rw (short_accepted r (make_link r a) is_text d fits, short_empty r (make_link r a) is_text d)

          module _ (least : 24 ≤ long) where
            name_beyond : length r < a + long → ok [] ≡ name_at r (make_link r a)
            unfolding and_then check name_text
            name_beyond l =
                let m : max 24 long ≡ long = omega arith in
                rw (
                  checked,
                  lt-ltb (a + long) (2 ^ 64) sum,
                  m,
                  lt-leb (a + long) (length r) l,
                  long_is 24 (omega arith),
                  length_is 24 inside,
                  lt-leb long 24 (omega arith),
                )

            pub name_whole : a + long ≤ length r → {t : List ℕ} → t ≡ trim_nuls (take (a + long - (a + 24)) (drop (a + 24) r)) → ok (lossy t) ≡ name_at r (make_link r a)
            unfolding and_then check name_text
            name_whole l e =
                let m : max 24 long ≡ long = omega arith in
                rw (
                  checked,
                  lt-ltb (a + long) (2 ^ 64) sum,
                  m,
                  le-leb (a + long) (length r) l,
                  long_is long least,
                  length_is long l,
                  le-leb long long (omega arith),
                  take_all long (bytes r a long) (omega (arith, length_is long l)),
                  ← (tail r a long),
                  e,
                  cut_slice r (a + 24) (a + long) (omega arith),
                )

          -- too short, or past the file's end
          pub name_unread : (24 ≤ long → length r < a + long) → ok [] ≡ name_at r (make_link r a)
          name_unread o = go (leb 24 long) refl
            where
              go : (t : Bool) → leb 24 long ≡ t → ok [] ≡ name_at r (make_link r a)
              go true h = let l = leb-true 24 long h in name_beyond l (o l)
              go false h = name_short (leb-false 24 long h)

-- what the walk asks of a name is the same
pub name_stopped : (r : List ℕ) (l : Link) {e : Refusal} → err e ≡ name_at r l → name_check (length r) l (name_head r l) ≡ err e
unfolding name_at
name_stopped r l e = ok_only (name_check (length r) l (name_head r l)) (λ u. name_text (name_bytes r l)) _ (sym e)

-- what is shown is the name
pub name_is : (r : List ℕ) (l : Link) {x : List ℕ} → ok x ≡ name_at r l → x ≡ name_text (name_bytes r l)
unfolding name_at
name_is r l {x} e = sym (ok_is (and_then_ok (name_check (length r) l (name_head r l)) _ x (sym e)).2)

-- a name that is refused is shown as none: where its address + 24 passes 2^64 it is no text, and where its address + block_len does
-- it passes the file's end
module _ (r : List ℕ) (a : ℕ) (small : length r < 2 ^ 64) where
  abbrev head_long : ℕ
  head_long = block_len (bytes r a 24)

  module _ (text : name_is_text (length r) (make_link r a) ≡ true) where
    passed : a + head_long < 2 ^ 64 → name_check (length r) (make_link r a) (name_head r (make_link r a)) ≡ ok tt
    unfolding make_link
    passed s =
        let i : a + 24 ≤ length r = name_inside r (make_link r a) text in
        name_accepted r (make_link r a) text (omega (arith, i)) (rw (head_is r (make_link r a) text) s)

    far : 2 ^ 64 ≤ a + head_long → name_text (name_bytes r (make_link r a)) ≡ []
    unfolding name_bytes name_len name_head make_link name_text bytes
    far s =
        let i : a + 24 ≤ length r = name_inside r (make_link r a) text in
        let n : length (take 24 (drop a r)) ≡ 24 = rw (length-take, length-drop) (omega arith) in
        rw (text, lt-leb (a + max 24 head_long) (length r) (omega (arith, i)), n, lt-leb head_long 24 (omega (arith, i)))

    text_none : {e : Refusal} → name_check (length r) (make_link r a) (name_head r (make_link r a)) ≡ err e → name_text (name_bytes r (make_link r a)) ≡ []
    text_none {e} q = go (ltb (a + head_long) (2 ^ 64)) refl
      where
        go : (b : Bool) → ltb (a + head_long) (2 ^ 64) ≡ b → name_text (name_bytes r (make_link r a)) ≡ []
        go true h = never (sym (passed (ltb-true (a + head_long) (2 ^ 64) h)) ∙ q)
        go false h = far (ltb-false (a + head_long) (2 ^ 64) h)

  pub name_none : {e : Refusal} → err e ≡ name_at r (make_link r a) → name_text (name_bytes r (make_link r a)) ≡ []
  name_none {e} q = go (name_is_text (length r) (make_link r a)) refl
    where
      go : (t : Bool) → name_is_text (length r) (make_link r a) ≡ t → name_text (name_bytes r (make_link r a)) ≡ []
      go true h = text_none h (name_stopped r (make_link r a) q)
      go false h = unfold name_bytes in rw h nameless

-- what the answers of read_text_at rest on
pub ruleset name_laws = (null_name, name_past, name_outside, name_other, name_long, name_unread, name_whole)
