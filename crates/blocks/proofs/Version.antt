-- The laws by which a version is read.
use mathlib.Core.Path.{◌≡◌, refl, sym, ap, subst, ◌∙◌}
use mathlib.Core.Bool.{Bool, true, false, cond, not}
use mathlib.Core.List.{List, [], ◌∷◌}
use Prim.Native.Nat.{ℕ, zero, suc, ◌+◌, ◌-◌, ◌*◌, ◌^◌, ◌≤◌, ◌<◌}
use native.Mathlib.Numerals.{one-add}
use native.Mathlib.Omega.{arith}
use lib.Dec.{eqb, leb, ltb}
use lib.ListN.{length, get_or, take, drop}
use Rattle.std.specs.Bool.{Decides}
use Rattle.std.specs.Char.{digit_value}
use Rattle.std.specs.Int.{IsInRange}
use Rattle.std.specs.List.{position_or_len}
use Rattle.std.specs.Str.{IsUtf8, IsAscii}
use Rattle.std.specs.Str.Parse.{AllDigits, IsNumeral, digits_value_after, digits_value, without_leading_plus}
use Rattle.std.proofs.lemmas.Bool.{lt-ltb, ltb-true, leb-true, le-leb, eqb-true}
use Rattle.std.proofs.lemmas.Bool.Decides.{Decides-and}
use Rattle.std.proofs.lemmas.Fmt.{IsAscii-from_digits}
use Rattle.std.proofs.lemmas.Str.{IsUtf8-from_ascii, digit_value_digit}
use Rattle.std.proofs.lemmas.Str.Parse.{digit_from_value}
use Rattle.utf8.specs.Utf8.{between, chunks, valid_utf8}
use Rattle.utf8.specs.White.{trim}
use Rattle.utf8.specs.Nul.{trim_end_nuls}
use Rattle.utf8.proofs.Decoding.{bytes_chunks}
use Rattle.mdf4.specs.Act.{Refusal, ok, err, refusal, and_then, check}
use Rattle.mdf4.specs.Version.{before_dot, from_dot, number, numeral, parse_u16, parse_minor, version_text, version}
use Rattle.blocks.specs.IdentificationBlock.{version_number, version_of_text}

-- ---- the first '.'

pub dot_front : (s : List ℕ) → take (position_or_len (λ b. eqb b 46) s) s ≡ before_dot s
unfolding before_dot
dot_front [] = refl
dot_front (b ∷ s) = rw one-add (go (eqb b 46) (dot_front s))
  where
    go : (t : Bool) → take (position_or_len (λ b. eqb b 46) s) s ≡ before_dot s
        → take (cond (not t) (suc (position_or_len (λ b. eqb b 46) s)) 0) (b ∷ s) ≡ cond t [] (b ∷ before_dot s)
    go true h = refl
    go false h = ap (λ (l : List ℕ). b ∷ l) h

pub dot_back : (s : List ℕ) → drop (position_or_len (λ b. eqb b 46) s) s ≡ from_dot s
unfolding from_dot
dot_back [] = refl
dot_back (b ∷ s) = rw one-add (go (eqb b 46) (dot_back s))
  where
    go : (t : Bool) → drop (position_or_len (λ b. eqb b 46) s) s ≡ from_dot s
        → drop (cond (not t) (suc (position_or_len (λ b. eqb b 46) s)) 0) (b ∷ s) ≡ cond t (b ∷ s) (from_dot s)
    go true h = refl
    go false h = h

-- ---- a number, as the library's parse has it, and the minor part

-- a further digit makes no number smaller
grows : (n : ℕ) (s : List ℕ) → n ≤ digits_value_after 10 n s
grows n [] = omega arith
grows n (b ∷ s) = omega (arith, grows (n * 10 + digit_value b) s)

digit_decided : (b : ℕ) → Decides (between 48 57 b) (IsInRange 48 57 b)
digit_decided b = Decides-and (leb 48 b) (leb b 57) (leb-true 48 b, le-leb 48 b) (leb-true b 57, le-leb b 57)

minus : (b : ℕ) → IsInRange 48 57 b → b - 48 ≡ digit_value b
minus b k = omega (arith, digit_value_digit b k)

module _ (e : Refusal) where
  number_ok : (n : ℕ) (s : List ℕ) → AllDigits 10 s → digits_value_after 10 n s < 2 ^ 16 → ok (digits_value_after 10 n s) ≡ number e n s
  unfolding number
  number_ok n [] d f = refl
  number_ok n (b ∷ s) d f =
      let k = digit_from_value b d.0 in
      let m = n * 10 + (b - 48) in
      let v : n * 10 + digit_value b ≡ m = ap (λ x. n * 10 + x) (sym (minus b k)) in
      let g : digits_value_after 10 m s < 2 ^ 16 = subst (λ x. digits_value_after 10 x s < 2 ^ 16) v f in
      ap (λ x. ok (digits_value_after 10 x s)) v ∙ number_ok m s d.1 g ∙ rw ((digit_decided b).1 k, lt-ltb m (2 ^ 16) (omega (arith, grows m s)))

  number_err : (n : ℕ) (s : List ℕ) → n < 2 ^ 16 → ¬ (AllDigits 10 s × (digits_value_after 10 n s < 2 ^ 16)) → err e ≡ number e n s
  unfolding number
  number_err n [] f h = absurd (h (tt, f))
  number_err n (b ∷ s) f h = at (between 48 57 b) refl (number_err (n * 10 + (b - 48)) s)
    where
      m : ℕ
      m = n * 10 + (b - 48)

      -- the digits after b too
      More : Type 0
      More = m < 2 ^ 16 → ¬ (AllDigits 10 s × (digits_value_after 10 m s < 2 ^ 16)) → err e ≡ number e m s

      fits : (t : Bool) → between 48 57 b ≡ true → ltb m (2 ^ 16) ≡ t → More → err e ≡ cond t (number e m s) (err e)
      fits true d g more =
          let k = (digit_decided b).0 d in
          let v : m ≡ n * 10 + digit_value b = ap (λ x. n * 10 + x) (minus b k) in
          more (ltb-true m (2 ^ 16) g) (λ p. h ((omega (arith, digit_value_digit b k), p.0), subst (λ x. digits_value_after 10 x s < 2 ^ 16) v p.1))
      fits false d g more = refl

      at : (t : Bool) → between 48 57 b ≡ t → More → err e ≡ cond t (cond (ltb m (2 ^ 16)) (number e m s) (err e)) (err e)
      at true d more = fits (ltb m (2 ^ 16)) d refl more
      at false d more = refl

  numeral_ok : (s : List ℕ) → IsNumeral 10 s → digits_value 10 s < 2 ^ 16 → ok (digits_value 10 s) ≡ numeral e s
  unfolding numeral
  numeral_ok [] d f = absurd (omega (arith, d.0))
  numeral_ok (b ∷ s) d f = number_ok 0 (b ∷ s) d.1 f

  numeral_err : (s : List ℕ) → ¬ (IsNumeral 10 s × (digits_value 10 s < 2 ^ 16)) → err e ≡ numeral e s
  unfolding numeral
  numeral_err [] h = refl
  numeral_err (b ∷ s) h = number_err 0 (b ∷ s) (omega arith) (λ p. h ((omega arith, p.0), p.1))

  parse_numeral : (s : List ℕ) → numeral e (without_leading_plus s) ≡ parse_u16 e s
  unfolding parse_u16 numeral
  parse_numeral [] = refl
  parse_numeral (b ∷ s) = at (eqb b 43)
    where
      at : (t : Bool) → numeral e (drop (cond t 1 0) (b ∷ s)) ≡ cond t (numeral e s) (numeral e (b ∷ s))
      at true = refl
      at false = refl

  -- what the library's parse takes
  abbrev Parses : List ℕ → Type 0
  Parses s = IsNumeral 10 (without_leading_plus s) × (digits_value 10 (without_leading_plus s) < 2 ^ 16)

  pub parse_ok : (s : List ℕ) (n : ℕ) → Parses s → n ≡ digits_value 10 (without_leading_plus s) → ok n ≡ parse_u16 e s
  parse_ok s n h v = ap ok v ∙ numeral_ok (without_leading_plus s) h.0 h.1 ∙ parse_numeral s

  pub parse_err : (s : List ℕ) → ¬ (Parses s) → err e ≡ parse_u16 e s
  parse_err s h = numeral_err (without_leading_plus s) h ∙ parse_numeral s

  -- a number is ASCII, and so a text that is no UTF-8 is none
  numeral_ascii : (s : List ℕ) → AllDigits 10 (without_leading_plus s) → IsAscii s
  numeral_ascii [] h i = omega arith
  numeral_ascii (b ∷ s) h i = at (eqb b 43) refl h i
    where
      at : (t : Bool) → eqb b 43 ≡ t → AllDigits 10 (drop (cond t 1 0) (b ∷ s)) → (i : ℕ) → get_or (b ∷ s) i 0 < 128
      at true p d zero = omega (arith, eqb-true b 43 p)
      at true p d (suc i) = IsAscii-from_digits s d i
      at false p d i = IsAscii-from_digits (b ∷ s) d i

  pub parse_no_text : (s : List ℕ) → ¬ (IsUtf8 s) → err e ≡ parse_u16 e s
  parse_no_text s h = parse_err s (λ g. h (IsUtf8-from_ascii s (numeral_ascii s g.0.1)))

pub minor_none : (e : Refusal) (s : List ℕ) → length s < 1 → parse_minor e s ≡ ok 0
unfolding parse_minor
minor_none e [] h = refl
minor_none e (b ∷ s) h = absurd (omega arith)

pub minor_some : (e : Refusal) (s : List ℕ) → 1 ≤ length s → parse_minor e s ≡ parse_u16 e (before_dot (drop 1 s))
unfolding parse_minor
minor_some e [] h = absurd (omega arith)
minor_some e (b ∷ s) h = refl

-- ---- the version

pub version_bad : (v : List ℕ) → valid_utf8 v ≡ false → err (refusal 3 8 1 0) ≡ version v
unfolding version and_then check
version_bad v e = rw e

-- t is the text of the version in the bytes v
pub version_good : (v t : List ℕ) → chunks t ≡ trim (chunks (trim_end_nuls v)) → valid_utf8 v ≡ true → version_of_text t ≡ version v
unfolding version version_text version_of_text version_number and_then check
version_good v t p e = rw (e, ← p, bytes_chunks t)
