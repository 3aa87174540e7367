-- White space: code points by a text's bytes, and the table of ranges.
use mathlib.Core.Path.{◌≡◌, refl}
use mathlib.Core.Bool.{◌&&◌, ◌||◌}
use mathlib.Core.List.{List, [], ◌∷◌}
use Prim.Native.Nat.{ℕ, suc, ◌+◌, ◌*◌, ◌%◌, ◌≤◌, ◌<◌}
use native.Mathlib.Omega.{arith}
use Rattle.std.proofs.lemmas.Bool.Decides.{nat_tests}
use Rattle.std.specs.Char.{is_whitespace}
use Rattle.utf8.specs.White.{white_ranges, is_white, in_ranges}
use lib.Dec.{ltb, eqb}
use lib.ListN.{length, get_or}
use Rattle.std.proofs.Math.Bool.{or_assoc, or-false}
use Rattle.std.specs.Char.{OutOfScalarRange}
use Rattle.std.proofs.Common.{false}
use Rattle.utf8.specs.White.{code_point}
use Rattle.utf8.specs.Utf8.{between}

pub code_0 : (s : List ℕ) → length s < 1 → code_point s ≡ 0
unfolding code_point
code_0 [] h = refl
code_0 (a ∷ s) h = absurd (omega arith)

pub code_1 : (s : List ℕ) → 1 ≤ length s → length s < 2 → code_point s ≡ get_or s 0 0
unfolding code_point
code_1 [] h k = absurd (omega arith)
code_1 (a ∷ []) h k = refl
code_1 (a ∷ b ∷ s) h k = absurd (omega arith)

pub code_2 : (s : List ℕ) → 2 ≤ length s → length s < 3 → code_point s ≡ get_or s 0 0 % 32 * 64 + get_or s 1 0 % 64
unfolding code_point
code_2 [] h k = absurd (omega arith)
code_2 (a ∷ []) h k = absurd (omega arith)
code_2 (a ∷ b ∷ []) h k = refl
code_2 (a ∷ b ∷ c ∷ s) h k = absurd (omega arith)

pub code_3 : (s : List ℕ) → 3 ≤ length s → length s < 4
    → code_point s ≡ get_or s 0 0 % 16 * 4096 + get_or s 1 0 % 64 * 64 + get_or s 2 0 % 64
unfolding code_point
code_3 [] h k = absurd (omega arith)
code_3 (a ∷ []) h k = absurd (omega arith)
code_3 (a ∷ b ∷ []) h k = absurd (omega arith)
code_3 (a ∷ b ∷ c ∷ []) h k = refl
code_3 (a ∷ b ∷ c ∷ d ∷ s) h k = absurd (omega arith)

pub code_4 : (s : List ℕ) → 4 ≤ length s
    → code_point s ≡ get_or s 0 0 % 8 * 262144 + get_or s 1 0 % 64 * 4096 + get_or s 2 0 % 64 * 64 + get_or s 3 0 % 64
unfolding code_point
code_4 [] h = absurd (omega arith)
code_4 (a ∷ []) h = absurd (omega arith)
code_4 (a ∷ b ∷ []) h = absurd (omega arith)
code_4 (a ∷ b ∷ c ∷ []) h = absurd (omega arith)
code_4 (a ∷ b ∷ c ∷ d ∷ s) h = refl

-- the code point of a text, by its length
pub ruleset code_points = (code_0, code_1, code_2, code_3, code_4)

-- ---- the library's test is the definition's

range : (a b c : ℕ) → between (suc a) b c ≡ (ltb a c && ltb c (suc b))
range a b c = grind (arith, nat_tests)

point : (x c : ℕ) → between x x c ≡ eqb c x
point x c = grind (arith, nat_tests)

pair : (x c : ℕ) → between x (suc x) c ≡ (eqb c x || eqb c (suc x))
pair x c = grind (arith, nat_tests)

pub white_is : (c : ℕ) → is_white c ≡ is_whitespace c
unfolding is_white in_ranges white_ranges
white_is c =
    rw (
      range 8 13 c,
      point 0x20 c,
      point 0x85 c,
      point 0xa0 c,
      point 0x1680 c,
      range 0x1fff 0x200a c,
      pair 0x2028 c,
      point 0x202f c,
      point 0x205f c,
      point 0x3000 c,
    )
    (simp (or_assoc, or-false))

-- what is no scalar value is no white space
pub outside : (c : ℕ) → OutOfScalarRange c → is_whitespace c ≡ false
outside c h = grind (arith, nat_tests)

pub ruleset white = (white_is, outside)
