-- Signed numbers of 16 bits, written by sign and magnitude. Assumes nothing.
use Prim.Native.Nat.{◌<◌}
use native.Mathlib.Numerals.{add-one}
use native.Mathlib.Omega.{arith}
use mathlib.Core.Path.{◌≡◌, refl}
use mathlib.Core.Bool.{true, false}
use mathlib.Core.List.{[], ◌∷◌, ◌++◌}
use lib.IntN.{ℤ, pos, negsuc, nat_abs}
use lib.Signed.{lt_z}
use borrow.Author.Tests.{ltb-true}
use Rattle.fmt.specs.Text.{ascii}
use Rattle.fmt.specs.Digits.{digits_to, digits, pad_left, dec, i16_of, dec_signed}

-- the bytes 00 80 hex are the least
least_16 : dec_signed (i16_of 0x8000) ≡ ascii "-32768"
unfolding dec_signed pad_left digits digits_to
least_16 = refl

pub below_zero : (x : ℤ) → lt_z x (pos 0) ≡ true → dec_signed x ≡ (45 ∷ []) ++ dec (nat_abs x)
unfolding dec_signed
below_zero (pos n) h = let l : n < 0 = ltb-true n 0 h in absurd (omega arith)
below_zero (negsuc n) h = rw add-one

pub from_zero : (x : ℤ) → lt_z x (pos 0) ≡ false → dec_signed x ≡ dec (nat_abs x)
unfolding dec_signed
from_zero (pos n) h = refl
from_zero (negsuc n) h = absurd (cc)
