-- White_Space of Unicode's PropList.txt, and `trim`. Assumes nothing.
use Rattle.std.specs.Prelude.{List, [], ◌∷◌, Bool, false, cond, ◌||◌, ℕ, ◌+◌, ◌*◌, ◌%◌}
use Rattle.utf8.specs.Utf8.{between, Chunk, char, junk}

-- first and last code point of each range
unfoldable pub white_ranges : List ℕ
white_ranges =
    0x9 ∷ 0xd ∷ 0x20 ∷ 0x20 ∷ 0x85 ∷ 0x85 ∷ 0xa0 ∷ 0xa0 ∷ 0x1680 ∷ 0x1680 ∷ 0x2000 ∷ 0x200a ∷ 0x2028 ∷ 0x2029 ∷ 0x202f ∷ 0x202f ∷ 0x205f
    ∷ 0x205f ∷ 0x3000 ∷ 0x3000 ∷ []

unfoldable pub in_ranges : ℕ → List ℕ → Bool
in_ranges c [] = false
in_ranges c (first ∷ []) = false
in_ranges c (first ∷ last ∷ rs) = between first last c || in_ranges c rs

unfoldable pub is_white : ℕ → Bool
is_white c = in_ranges c white_ranges

-- the code point of a character's bytes
unfoldable pub code_point : List ℕ → ℕ
code_point [] = 0
code_point (a ∷ []) = a
code_point (a ∷ b ∷ []) = a % 32 * 64 + b % 64
code_point (a ∷ b ∷ c ∷ []) = a % 16 * 4096 + b % 64 * 64 + c % 64
code_point (a ∷ b ∷ c ∷ d ∷ r) = a % 8 * 262144 + b % 64 * 4096 + c % 64 * 64 + d % 64

-- U+FFFD, which stands for an ill-formed run, is no white space
unfoldable pub white_chunk : Chunk → Bool
white_chunk (char bs) = is_white (code_point bs)
white_chunk (junk bs) = false

-- white space off the start: `trim_start`
unfoldable pub trim_start : List Chunk → List Chunk
trim_start [] = []
trim_start (x ∷ xs) = cond (white_chunk x) (trim_start xs) (x ∷ xs)

-- a list with all that passes a test off its end
unfoldable pub keep : {A : Type 0} → (A → Bool) → A → List A → List A
keep p x [] = cond (p x) [] (x ∷ [])
keep p x (y ∷ ys) = x ∷ y ∷ ys

unfoldable pub drop_end : {A : Type 0} → (A → Bool) → List A → List A
drop_end p [] = []
drop_end p (x ∷ xs) = keep p x (drop_end p xs)

-- white space off the end: `trim_end`; off both ends: `trim`
unfoldable pub trim_end : List Chunk → List Chunk
trim_end xs = drop_end white_chunk xs

unfoldable pub trim : List Chunk → List Chunk
trim xs = trim_end (trim_start xs)
