-- The beginning of a text: `preview_string`. Assumes nothing.
use Rattle.std.specs.Prelude.{ℕ, Bool, cond, List, [], ◌∷◌, ◌++◌, map, leb, eqb, length, take}
use Rattle.utf8.specs.Utf8.{Chunk, char, junk, shown_all}
use Rattle.fmt.specs.Text.{ascii}

-- a text of at most n characters whole; of a longer one the first n, and "..."
unfoldable pub preview : ℕ → List Chunk → List ℕ
preview n xs = cond (leb (length xs) n) (shown_all xs) (shown_all (take n xs) ++ ascii "...")

-- a line feed as a space: `replace('\n', " ")`
unfoldable pub unlined : Chunk → Chunk
unlined (char (b ∷ [])) = char (cond (eqb b 10) 32 b ∷ [])
unlined (char []) = char []
unlined (char (b ∷ c ∷ bs)) = char (b ∷ c ∷ bs)
unlined (junk bs) = junk bs

-- a text's parts as they stand, or on one line, with its line feeds as spaces
abbrev pub flat : Bool → List Chunk → List Chunk
flat one xs = cond one (map unlined xs) xs
