-- The version of the identification block, of its eight bytes: refusals 3, 7 and 4.
use Rattle.std.specs.Prelude.{List, [], ◌∷◌, cond, ℕ, ◌+◌, ◌-◌, ◌*◌, ◌^◌, ltb, leb, eqb}
use Rattle.utf8.specs.Utf8.{between, chunks, valid_utf8, bytes_all}
use Rattle.utf8.specs.White.{trim}
use Rattle.utf8.specs.Nul.{trim_end_nuls}
use Rattle.mdf4.specs.Act.{Refusal, refusal, Out, ok, err, and_then, check}

-- what stands before the first '.', and what from it on
unfoldable pub before_dot : List ℕ → List ℕ
before_dot [] = []
before_dot (b ∷ s) = cond (eqb b 46) [] (b ∷ before_dot s)

unfoldable pub from_dot : List ℕ → List ℕ
from_dot [] = []
from_dot (b ∷ s) = cond (eqb b 46) (b ∷ s) (from_dot s)

-- decimal digits, after those that make `sum`, as a u16; e where they make none
unfoldable pub number : Refusal → ℕ → List ℕ → Out ℕ
number e sum [] = ok sum
number e sum (b ∷ s) = cond (between 48 57 b) (cond (ltb (sum * 10 + (b - 48)) (2 ^ 16)) (number e (sum * 10 + (b - 48)) s) (err e)) (err e)

-- at least one digit
unfoldable pub numeral : Refusal → List ℕ → Out ℕ
numeral e [] = err e
numeral e (b ∷ s) = number e 0 (b ∷ s)

-- `parse::<u16>`: a '+' may stand before the digits
unfoldable pub parse_u16 : Refusal → List ℕ → Out ℕ
parse_u16 e [] = err e
parse_u16 e (b ∷ s) = cond (eqb b 43) (numeral e s) (numeral e (b ∷ s))

-- the second part, of what stands from the first '.' on; 0 where there is none
unfoldable pub parse_minor : Refusal → List ℕ → Out ℕ
parse_minor e [] = ok 0
parse_minor e (dot ∷ s) = parse_u16 e (before_dot s)

-- trailing NULs off, then White_Space off both ends
unfoldable pub version_text : List ℕ → List ℕ
version_text v = bytes_all (trim (chunks (trim_end_nuls v)))

-- the number, major × 100 + minor, at least 410
unfoldable pub version : List ℕ → Out ℕ
version v =
    and_then (check (valid_utf8 v) (refusal 3 8 1 0)) (λ u.
    and_then (parse_u16 (refusal 3 8 2 0) (before_dot (version_text v))) (λ major.
    and_then (parse_minor (refusal 3 8 3 0) (from_dot (version_text v))) (λ minor.
    and_then (check (ltb (major * 100 + minor) (2 ^ 16)) (refusal 7 8 major minor)) (λ u.
    and_then (check (leb 410 (major * 100 + minor)) (refusal 4 8 (major * 100 + minor) 0)) (λ u.
    ok (major * 100 + minor))))))
