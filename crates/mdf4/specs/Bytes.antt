-- Bytes of a recording, the little-endian numbers in them, and ranges of bytes. Assumes nothing.
use Rattle.std.specs.Prelude.{Bool, true, false, ◌||◌, ◌&&◌, List, [], ◌∷◌, ◌++◌, ℕ, zero, suc, ◌+◌, ◌*◌, leb, ltb, take, drop}

-- the n bytes of r from the offset a on; fewer where r ends
unfoldable pub bytes : List ℕ → ℕ → ℕ → List ℕ
bytes r a n = take n (drop a r)

-- the number whose little-endian bytes are xs
unfoldable pub little : List ℕ → ℕ
little [] = 0
little (x ∷ xs) = x + 256 * little xs

-- the field of w bytes at the place a of a block
unfoldable pub num : List ℕ → ℕ → ℕ → ℕ
num b a w = little (bytes b a w)

-- n fields of 8 bytes, from the place a on
unfoldable pub words : List ℕ → ℕ → ℕ → List ℕ
words b a zero = []
words b a (suc n) = num b a 8 ∷ words b (a + 8) n

-- a range of bytes: from .0 up to, not including, .1
abbrev pub Range : Type 0
Range = ℕ × ℕ

unfoldable pub within : ℕ → Range → Bool
within i p = leb p.0 i && ltb i p.1

-- whether one of the ranges holds the byte i
unfoldable pub inside : ℕ → List Range → Bool
inside i [] = false
inside i (p ∷ ps) = within i p || inside i ps

-- 1 where a test holds
unfoldable pub bit : Bool → ℕ
bit true = 1
bit false = 0

-- the sum of f over the numbers below n, and of a list
unfoldable pub tally : (ℕ → ℕ) → ℕ → ℕ
tally f zero = 0
tally f (suc n) = tally f n + f n

unfoldable pub sum : List ℕ → ℕ
sum [] = 0
sum (x ∷ xs) = x + sum xs

-- how many of the ranges hold the byte i
unfoldable pub count : ℕ → List Range → ℕ
count i [] = 0
count i (p ∷ ps) = bit (within i p) + count i ps

-- what each element gives, one after the other
unfoldable pub concat_map : {A B : Type 0} → (A → List B) → List A → List B
concat_map f [] = []
concat_map f (x ∷ xs) = f x ++ concat_map f xs
