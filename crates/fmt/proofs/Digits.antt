-- The laws by which a number is written digit by digit, and some numbers' texts. Assumes nothing.
use Prim.Native.Nat.{ℕ, zero, suc, ◌-◌, ◌+◌, ◌/◌, ◌%◌, ◌≤◌, ◌<◌}
use native.Mathlib.Nat.{div-lt_self}
use native.Mathlib.Decide.{dec_lt}
use native.Mathlib.Omega.{arith}
use mathlib.Core.Path.{◌≡◌, refl, sym, ap, ◌∙◌}
use mathlib.Core.List.{List, [], ◌∷◌, ◌++◌, append_assoc}
use lib.ListN.{length, replicate, length-append}
use borrow.Author.Tests.{lt-ltb, le-ltb}
use Rattle.fmt.specs.Text.{ascii}
use Rattle.fmt.specs.Digits.{digit, digits_to, digits, pad_left, dec, dec_right, hex}

dec_0 : dec 0 ≡ ascii "0"
unfolding pad_left digits digits_to
dec_0 = refl

dec_max : dec 18446744073709551615 ≡ ascii "18446744073709551615"
unfolding pad_left digits digits_to
dec_max = refl

dec_right_10 : dec_right 10 104 ≡ ascii "       104"
unfolding pad_left digits digits_to
dec_right_10 = refl

hex_10 : hex 10 168 ≡ ascii "00000000a8"
unfolding pad_left digits digits_to
hex_10 = refl

-- the digits of a number with a bound on how many
digits_to_small : (b f x : ℕ) → x < b → digits_to b f x ≡ digit x ∷ []
unfolding digits_to
digits_to_small b zero x h = refl
digits_to_small b (suc f) x h = rw (lt-ltb x b h, digits_to)

digits_to_more : (b f x : ℕ) → b ≤ x → digits_to b (suc f) x ≡ digits_to b f (x / b) ++ (digit (x % b) ∷ [])
unfolding digits_to
digits_to_more b f x h = rw (le-ltb x b h, digits_to)

-- any bound that is large enough gives the same digits
enough : (b f g x : ℕ) → 2 ≤ b → x ≤ f → x ≤ g → digits_to b f x ≡ digits_to b g x
enough b zero g x hb hf hg = digits_to_small b zero x (omega arith) ∙ sym (digits_to_small b g x (omega arith))
enough b (suc f) zero x hb hf hg = digits_to_small b (suc f) x (omega arith) ∙ sym (digits_to_small b zero x (omega arith))
enough b (suc f) (suc g) x hb hf hg =
    elim (dec_lt x b) [
      | yes h ↦ digits_to_small b (suc f) x h ∙ sym (digits_to_small b (suc g) x h)
      | no h ↦
          let m : b ≤ x = omega arith in
          let l : x / b < x = div-lt_self (omega arith) hb in
          digits_to_more b f x m
          ∙ ap (λ (l : List ℕ). l ++ (digit (x % b) ∷ [])) (enough b f g (x / b) hb (omega arith) (omega arith))
          ∙ sym (digits_to_more b g x m)
    ]

pub digits_small : (b x : ℕ) → x < b → digits b x ≡ digit x ∷ []
unfolding digits
digits_small b x h = digits_to_small b x x h

pub digits_more : (b x : ℕ) → 2 ≤ b → b ≤ x → digits b x ≡ digits b (x / b) ++ (digit (x % b) ∷ [])
unfolding digits
digits_more b zero hb h = absurd (omega arith)
digits_more b (suc x) hb h =
    let l : suc x / b < suc x = div-lt_self (omega arith) hb in
    digits_to_more b x (suc x) h
    ∙ ap (λ (l : List ℕ). l ++ (digit (suc x % b) ∷ [])) (enough b x (suc x / b) (suc x / b) hb (omega arith) (omega arith))

-- a filler before a text that ends in d: before the rest, one narrower
pub pad_left_snoc : (w p d : ℕ) (l : List ℕ) → pad_left w p (l ++ (d ∷ [])) ≡ pad_left (w - 1) p l ++ (d ∷ [])
unfolding pad_left
pad_left_snoc w p d l =
    let e : w - (length l + 1) ≡ w - 1 - length l = omega arith in
    simp (length-append, append_assoc, e)

pub number_small : (w p b x : ℕ) → x < b → pad_left w p (digits b x) ≡ replicate (w - 1) p ++ (digit x ∷ [])
unfolding pad_left
number_small w p b x h = rw (digits_small b x h)

pub number_more : (w p b x : ℕ) → 2 ≤ b → b ≤ x → pad_left w p (digits b x) ≡ pad_left (w - 1) p (digits b (x / b)) ++ (digit (x % b) ∷ [])
number_more w p b x hb h = rw (digits_more b x hb h) (pad_left_snoc w p (digit (x % b)) (digits b (x / b)))
