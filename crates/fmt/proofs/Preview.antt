-- The laws by which a text is written one part after the other, and its beginning. Assumes nothing.
use Prim.Native.Nat.{ℕ, ◌+◌, ◌≤◌, ◌<◌}
use native.Mathlib.Omega.{arith}
use mathlib.Core.Path.{◌≡◌, refl}
use mathlib.Core.Bool.{Bool, true, false}
use mathlib.Core.List.{List, [], ◌∷◌, ◌++◌, append-nil, map}
use lib.ListN.{length, get_or, take, replicate, length-append, length-map}
use lib.Seq.{take_all}
use Rattle.std.proofs.lemmas.List.{take-map}
use borrow.Author.Tests.{le-leb, lt-leb, ne_eqb}
use Rattle.utf8.specs.Utf8.{lead_of, after_lead, step_of, Chunk, char, junk, chunk_of, chunks_after, chunks, shown, shown_all}
use Rattle.utf8.proofs.Decoding.{shown_append}
use Rattle.fmt.specs.Text.{ascii, Page, page, Wrote}
use Rattle.fmt.proofs.Text.{Left, left_more}
use Rattle.fmt.specs.Preview.{preview, unlined, flat}

-- 48 of 49 characters
preview_48 : preview 48 (chunks (replicate 49 97)) ≡ replicate 48 97 ++ ascii "..."
unfolding preview chunks chunks_after step_of lead_of after_lead chunk_of shown shown_all
preview_48 = refl

-- ---- one part

pub char_feed : (one : Bool) (c : List ℕ) → length c ≡ 1 → one ≡ true → get_or c 0 0 ≡ 10 → shown_all (flat one (char c ∷ [])) ≡ 32 ∷ []
unfolding shown shown_all unlined
char_feed one [] l o h = absurd (omega arith)
char_feed one (b ∷ []) l o h = rw (o, h)
char_feed one (b ∷ d ∷ c) l o h = absurd (omega arith)

pub char_byte : (one : Bool) (c : List ℕ) → length c ≡ 1 → (one ≡ true → get_or c 0 0 ≡ 10 → ⊥) → shown_all (flat one (char c ∷ [])) ≡ get_or c 0 0 ∷ []
unfolding shown shown_all unlined
char_byte one [] l h = absurd (omega arith)
char_byte one (b ∷ d ∷ c) l h = absurd (omega arith)
char_byte false (b ∷ []) l h = refl
char_byte true (b ∷ []) l h = rw (ne_eqb b 10 (h refl))

pub char_long : (one : Bool) (c : List ℕ) → (length c ≡ 1 → ⊥) → shown_all (flat one (char c ∷ [])) ≡ c
unfolding shown shown_all unlined
char_long false c h = append-nil c
char_long true [] h = refl
char_long true (b ∷ []) h = absurd (h refl)
char_long true (b ∷ d ∷ c) h = append-nil (b ∷ d ∷ c)

pub junk_mark : (one : Bool) (bs : List ℕ) → shown_all (flat one (junk bs ∷ [])) ≡ 0xef ∷ 0xbf ∷ 0xbd ∷ []
unfolding shown shown_all unlined
junk_mark true bs = refl
junk_mark false bs = refl

-- ---- one after the other

pub flat_none : (one : Bool) → shown_all (flat one []) ≡ []
unfolding shown_all
flat_none true = refl
flat_none false = refl

pub flat_cons : (one : Bool) (x : Chunk) (xs : List Chunk) → shown_all (flat one (x ∷ xs)) ≡ shown_all (flat one (x ∷ [])) ++ shown_all (flat one xs)
flat_cons true x xs = shown_append (unlined x ∷ []) (map unlined xs)
flat_cons false x xs = shown_append (x ∷ []) xs

module _ (one : Bool) {p : Page} {t out out' : List ℕ} {at at' : ℕ} {xs ys : List Chunk} (w : Left p (page out at) t (shown_all (flat one xs))) where
  pub part_written : {x : Chunk} → xs ≡ x ∷ ys → Wrote out at (shown_all (flat one (x ∷ []))) out' at' → Left p (page out' at') t (shown_all (flat one ys))
  part_written {x} e v = left_more _ _ (rw (e, flat_cons one x ys) at w) v

  pub mark_written : {bs : List ℕ} → xs ≡ junk bs ∷ ys → Wrote out at (0xef ∷ 0xbf ∷ 0xbd ∷ []) out' at' → Left p (page out' at') t (shown_all (flat one ys))
  mark_written {bs} e v = part_written e (rw (junk_mark one bs) v)

-- how many bytes the parts that are to come have: those of the first, and those of the others
module _ {xs ys : List Chunk} where
  pub char_counts : {bs : List ℕ} → xs ≡ char bs ∷ ys → length (shown_all xs) ≡ length bs + length (shown_all ys)
  unfolding shown shown_all
  char_counts {bs} e = rw e (length-append bs (shown_all ys))

  pub junk_counts : {bs : List ℕ} → xs ≡ junk bs ∷ ys → length (shown_all xs) ≡ 3 + length (shown_all ys)
  unfolding shown shown_all
  junk_counts {bs} e = rw e (length-append (0xef ∷ 0xbf ∷ 0xbd ∷ []) (shown_all ys))

pub none_counts : length (shown_all []) ≡ 0
unfolding shown_all
none_counts = refl

-- ---- the first n parts, and the mark where there are more

flat_length : (one : Bool) (xs : List Chunk) → length (flat one xs) ≡ length xs
flat_length true xs = length-map xs unlined
flat_length false xs = refl

flat_take : (one : Bool) (n : ℕ) (xs : List Chunk) → take n (flat one xs) ≡ flat one (take n xs)
flat_take true n xs = take-map unlined n xs
flat_take false n xs = refl

pub preview_all : (one : Bool) (n : ℕ) (xs : List Chunk) → length xs ≤ n → preview n (flat one xs) ≡ shown_all (flat one (take n xs))
unfolding preview
preview_all one n xs h = rw (flat_length one xs, le-leb (length xs) n h, take_all n xs h)

pub preview_cut : (one : Bool) (n : ℕ) (xs : List Chunk) → n < length xs → preview n (flat one xs) ≡ shown_all (flat one (take n xs)) ++ ascii "..."
unfolding preview
preview_cut one n xs h = rw (flat_length one xs, lt-leb (length xs) n h, flat_take one n xs)
