-- UTF-8 as Unicode's Table 3-7 has it, and decoding with replacement by maximal subparts. Assumes nothing.
use Rattle.std.specs.Prelude.{List, [], ◌∷◌, ◌++◌, Bool, true, false, cond, ◌&&◌, ℕ, zero, suc, pred, ◌+◌, ltb, leb, eqb, length, take}
use Rattle.utf8.specs.declared.Lead.{Lead}
use Rattle.utf8.specs.declared.Lead.TheVariants.{Ascii, Never, Second}
use Rattle.utf8.specs.declared.Step.{Step}
use Rattle.utf8.specs.declared.Step.TheVariants.{Char, Junk}

abbrev pub between : ℕ → ℕ → ℕ → Bool
between lo hi b = leb lo b && leb b hi

-- what a first byte asks of the bytes after it
unfoldable pub lead_of : ℕ → Lead
lead_of b =
    cond (ltb b 0x80) Ascii
    (cond (ltb b 0xc2) Never
    (cond (ltb b 0xe0) (Second 0x80 0xbf 0)
    (cond (ltb b 0xe1) (Second 0xa0 0xbf 1)
    (cond (ltb b 0xed) (Second 0x80 0xbf 1)
    (cond (ltb b 0xee) (Second 0x80 0x9f 1)
    (cond (ltb b 0xf0) (Second 0x80 0xbf 1)
    (cond (ltb b 0xf1) (Second 0x90 0xbf 2)
    (cond (ltb b 0xf4) (Second 0x80 0xbf 2)
    (cond (ltb b 0xf5) (Second 0x80 0x8f 2) Never)))))))))

-- how many of the first `more` bytes are of 80..BF hex, up to the first that is not
unfoldable pub trailing : ℕ → List ℕ → ℕ
trailing zero s = 0
trailing (suc more) [] = 0
trailing (suc more) (b ∷ s) = cond (between 0x80 0xbf b) (suc (trailing more s)) 0

-- a whole character where all `more` are there, else a run that ends before the first that is not
unfoldable pub ended : ℕ → ℕ → Step
ended more found = cond (eqb found more) (Char (2 + found)) (Junk (2 + found))

unfoldable pub after_lead : Lead → List ℕ → Step
after_lead Ascii s = Char 1
after_lead Never s = Junk 1
after_lead (Second lo hi more) [] = Junk 1
after_lead (Second lo hi more) (b ∷ s) = cond (between lo hi b) (ended more (trailing more s)) (Junk 1)

-- what stands at the front of some bytes (of no bytes: a run of none)
unfoldable pub step_of : List ℕ → Step
step_of [] = Junk 0
step_of (b ∷ s) = after_lead (lead_of b) s

-- a step's bytes
abbrev pub width_of : Step → ℕ
width_of (Char n) = n
width_of (Junk n) = n

-- a part of a text: the bytes of a character, or of an ill-formed run
pub data Chunk : Type 0 where
  char : List ℕ → Chunk
  junk : List ℕ → Chunk

unfoldable pub chunk_of : Step → List ℕ → Chunk
chunk_of (Char n) s = char (take n s)
chunk_of (Junk n) s = junk (take n s)

-- the part at the front of some bytes
abbrev pub first_chunk : List ℕ → Chunk
first_chunk s = chunk_of (step_of s) s

-- the parts of a text, after `skip` bytes that belong to the part before
unfoldable pub chunks_after : ℕ → List ℕ → List Chunk
chunks_after skip [] = []
chunks_after zero (b ∷ s) = first_chunk (b ∷ s) ∷ chunks_after (pred (width_of (step_of (b ∷ s)))) s
chunks_after (suc skip) (b ∷ s) = chunks_after skip s

unfoldable pub chunks : List ℕ → List Chunk
chunks s = chunks_after 0 s

-- what a part is shown as: itself, or U+FFFD
unfoldable pub shown : Chunk → List ℕ
shown (char bs) = bs
shown (junk bs) = 0xef ∷ 0xbf ∷ 0xbd ∷ []

unfoldable pub shown_all : List Chunk → List ℕ
shown_all [] = []
shown_all (x ∷ xs) = shown x ++ shown_all xs

-- `String::from_utf8_lossy`, and its number of characters
unfoldable pub lossy : List ℕ → List ℕ
lossy s = shown_all (chunks s)

unfoldable pub char_count : List ℕ → ℕ
char_count s = length (chunks s)

-- whether a text is well-formed throughout: `str::from_utf8` takes it
unfoldable pub well_formed : List Chunk → Bool
well_formed [] = true
well_formed (char bs ∷ xs) = well_formed xs
well_formed (junk bs ∷ xs) = false

unfoldable pub valid_utf8 : List ℕ → Bool
valid_utf8 s = well_formed (chunks s)

-- the bytes of a text's parts
unfoldable pub bytes_of : Chunk → List ℕ
bytes_of (char bs) = bs
bytes_of (junk bs) = bs

unfoldable pub bytes_all : List Chunk → List ℕ
bytes_all [] = []
bytes_all (x ∷ xs) = bytes_of x ++ bytes_all xs
