-- Numbers as texts: digits in a base from 2 to 16, fillers before and after a text, signed numbers. Assumes nothing.
use Rattle.std.specs.Prelude.{ℕ, zero, suc, ◌+◌, ◌-◌, ◌/◌, ◌%◌, true, false, cond, List, [], ◌∷◌, ◌++◌, length, replicate, ltb, ℤ, pos, negsuc}

-- the byte that stands for a number below 16
abbrev pub digit : ℕ → ℕ
digit d = cond (ltb d 10) (48 + d) (87 + d)

-- the digits of x in base b, the highest first; f bounds their number
unfoldable pub digits_to : ℕ → ℕ → ℕ → List ℕ
digits_to b zero x = digit x ∷ []
digits_to b (suc f) x = elim (ltb x b) [ true ↦ digit x ∷ [] | false ↦ digits_to b f (x / b) ++ (digit (x % b) ∷ []) ]

-- x has at most x digits, so x itself is a bound that is never reached (0 has one digit, which is itself)
unfoldable pub digits : ℕ → ℕ → List ℕ
digits b x = digits_to b x x

-- as Rust's `{:>w}` and `{:0w}`, with the filler p; and as `{:<w}`
unfoldable pub pad_left : ℕ → ℕ → List ℕ → List ℕ
pad_left w p l = replicate (w - length l) p ++ l

unfoldable pub pad_right : ℕ → ℕ → List ℕ → List ℕ
pad_right w p l = l ++ replicate (w - length l) p

-- `{}`, `{:>w}`, and `{:0kx}`
abbrev pub dec : ℕ → List ℕ
dec x = pad_left 0 32 (digits 10 x)

abbrev pub dec_right : ℕ → ℕ → List ℕ
dec_right w x = pad_left w 32 (digits 10 x)

abbrev pub hex : ℕ → ℕ → List ℕ
hex k x = pad_left k 48 (digits 16 x)

-- the i16 whose 16 bits are those of u, and `{}` of a signed number
abbrev pub i16_of : ℕ → ℤ
i16_of u = cond (ltb u 0x8000) (pos u) (negsuc (0xffff - u))

unfoldable pub dec_signed : ℤ → List ℕ
dec_signed (pos n) = dec n
dec_signed (negsuc n) = (45 ∷ []) ++ dec (n + 1)
