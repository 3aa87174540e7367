-- The law of `chunks` on a part of a list, one step at a time. A loop over a text takes its steps from `on_look`, `on_step`,
-- `on_char` or `on_junk`, and what they say of the text from the laws below; it opens no definition.
use mathlib.Core.Path.{◌≡◌, refl, ap, sym, ◌∙◌}
use mathlib.Core.Bool.{Bool, true, false, cond}
use mathlib.Core.List.{List, [], ◌∷◌, ◌++◌, append_assoc, append-nil, map}
use Rattle.std.proofs.lemmas.List.{map-append}
use Prim.Native.Nat.{ℕ, zero, suc, pred, ◌+◌, ◌≤◌, ◌<◌}
use native.Mathlib.Decide.{dec_lt}
use native.Mathlib.Omega.{arith}
use Rattle.std.specs.List.{list_all}
use Rattle.std.proofs.lemmas.Bool.Decides.{nat_tests}
use lib.ListN.{length, take, drop, length-append, length-take, length-map, take-append-drop}
use lib.Seq.{drop-drop, take-take, length-take-le, take_at, take_all}
use Rattle.utf8.specs.Utf8.{between, trailing, ended, after_lead, step_of, width_of, Chunk, char, junk, chunk_of, first_chunk, chunks_after, chunks, lead_of, shown, shown_all, lossy, well_formed, valid_utf8, bytes_of, bytes_all}
use Rattle.utf8.specs.Parts.{held}
use Rattle.utf8.proofs.Slices.{drop_take, drop_pred}
use Rattle.utf8.proofs.Steps.{ended_width, after_width, width_step}
use Rattle.utf8.specs.declared.Chunk as code
use Rattle.utf8.specs.declared.Lead.{Lead}
use Rattle.utf8.specs.declared.Lead.TheVariants.{Ascii, Never, Second}
use Rattle.utf8.specs.declared.Step.{Step}
use Rattle.utf8.specs.declared.Step.TheVariants.{Char, Junk}

-- ---- a step depends on its own bytes alone

trailing_stable : (m n : ℕ) (s : List ℕ) → trailing m s ≤ n → trailing m (take n s) ≡ trailing m s
unfolding trailing
trailing_stable zero n s h = refl
trailing_stable (suc m) zero [] h = refl
trailing_stable (suc m) (suc n) [] h = refl
trailing_stable (suc m) zero (b ∷ s) h = omega arith
trailing_stable (suc m) (suc n) (b ∷ s) h = go (between 0x80 0xbf b) h (trailing_stable m n s)
  where
    go : (t : Bool) → cond t (suc (trailing m s)) 0 ≤ suc n → (trailing m s ≤ n → trailing m (take n s) ≡ trailing m s)
        → cond t (suc (trailing m (take n s))) 0 ≡ cond t (suc (trailing m s)) 0
    go true k rec = ap suc (rec (omega arith))
    go false k rec = refl

after_stable : (l : Lead) (n : ℕ) (s : List ℕ) → width_of (after_lead l s) ≤ suc n → after_lead l (take n s) ≡ after_lead l s
unfolding after_lead
after_stable Ascii n s h = refl
after_stable Never n s h = refl
after_stable (Second lo hi m) zero [] h = refl
after_stable (Second lo hi m) (suc n) [] h = refl
after_stable (Second lo hi m) zero (b ∷ s) h = go (between lo hi b) h
  where
    go : (t : Bool) → width_of (cond t (ended m (trailing m s)) (Junk 1)) ≤ 1 → Junk 1 ≡ cond t (ended m (trailing m s)) (Junk 1)
    go true k = absurd (omega (arith, ended_width m (trailing m s)))
    go false k = refl
after_stable (Second lo hi m) (suc n) (b ∷ s) h = go (between lo hi b) h
  where
    go : (t : Bool) → width_of (cond t (ended m (trailing m s)) (Junk 1)) ≤ suc (suc n)
        → cond t (ended m (trailing m (take n s))) (Junk 1) ≡ cond t (ended m (trailing m s)) (Junk 1)
    go true k = ap (ended m) (trailing_stable m n s (omega (arith, ended_width m (trailing m s))))
    go false k = refl

step_stable : (n : ℕ) (l : List ℕ) → width_of (step_of l) ≤ n → step_of (take n l) ≡ step_of l
unfolding step_of
step_stable zero [] h = refl
step_stable (suc n) [] h = refl
step_stable zero (b ∷ s) h = absurd (omega (arith, after_width (lead_of b) s))
step_stable (suc n) (b ∷ s) h = after_stable (lead_of b) n s h

-- ---- one part and the rest

after_drop : (k : ℕ) (s : List ℕ) → chunks_after k s ≡ chunks (drop k s)
unfolding chunks_after chunks
after_drop zero [] = refl
after_drop (suc k) [] = refl
after_drop zero (b ∷ s) = refl
after_drop (suc k) (b ∷ s) = after_drop k s

chunks_step : (l : List ℕ) → 0 < length l → chunks l ≡ chunk_of (step_of l) l ∷ chunks (drop (width_of (step_of l)) l)
unfolding chunks_after chunks
chunks_step [] h = absurd (omega arith)
chunks_step (b ∷ s) h =
    ap (λ (r : List Chunk). chunk_of (step_of (b ∷ s)) (b ∷ s) ∷ r)
    (after_drop (pred (width_of (step_of (b ∷ s)))) s ∙ ap chunks (drop_pred (width_of (step_of (b ∷ s))) b s (width_step (b ∷ s) h).0))

pub chunks_nil : chunks [] ≡ []
unfolding chunks chunks_after
chunks_nil = refl

pub chunks_empty : (t : List ℕ) → length t ≡ 0 → chunks t ≡ []
chunks_empty [] h = chunks_nil
chunks_empty (b ∷ t) h = absurd (omega arith)

-- the part at the front, as the code cuts it off
module _ (t : List ℕ) (h : 0 < length t) (r : Step) (e : r ≡ step_of t) where
  pub width_some : 1 ≤ width_of r
  width_some = rw e ((width_step t h).0)

  pub width_fits : width_of r ≤ length t
  width_fits = rw e ((width_step t h).1)

  next : chunks t ≡ chunk_of r t ∷ chunks (drop (width_of r) t)
  next = rw e (chunks_step t h)

  pub next_char : (n : ℕ) → r ≡ Char n → chunks t ≡ char (take (width_of r) t) ∷ chunks (drop (width_of r) t)
  unfolding chunk_of
  next_char n q = rw q (rw q at next)

  pub next_junk : (n : ℕ) → r ≡ Junk n → chunks t ≡ junk (take (width_of r) t) ∷ chunks (drop (width_of r) t)
  unfolding chunk_of
  next_junk n q = rw q (rw q at next)

pub ruleset front_part = (chunks_empty, width_some, width_fits, next_char, next_junk, nat_tests)

-- ---- the bytes of the first n parts, and those after them

first_stable : (n : ℕ) (l : List ℕ) → width_of (step_of l) ≤ n → first_chunk (take n l) ≡ first_chunk l
unfolding chunk_of
first_stable n l h = go (step_of l) refl
  where
    go : (r : Step) → step_of l ≡ r → first_chunk (take n l) ≡ first_chunk l
    go (Char w) e = rw (step_stable n l h, e) (ap char (take-take w n l (rw e at h)))
    go (Junk w) e = rw (step_stable n l h, e) (ap junk (take-take w n l (rw e at h)))

chunk_bytes : (r : Step) (s : List ℕ) → bytes_of (chunk_of r s) ≡ take (width_of r) s
unfolding bytes_of chunk_of
chunk_bytes (Char n) s = refl
chunk_bytes (Junk n) s = refl

-- ---- the parts of a text hold its bytes

bytes_after : (k : ℕ) (s : List ℕ) → bytes_all (chunks_after k s) ≡ drop k s
unfolding bytes_all chunks_after
bytes_after zero [] = refl
bytes_after (suc k) [] = refl
bytes_after (suc k) (b ∷ s) = bytes_after k s
bytes_after zero (b ∷ s) =
    rw (
      chunk_bytes (step_of (b ∷ s)) (b ∷ s),
      bytes_after (pred (width_of (step_of (b ∷ s)))) s,
      drop_pred (width_of (step_of (b ∷ s))) b s (width_step (b ∷ s) (omega arith)).0,
    )
    (take-append-drop (width_of (step_of (b ∷ s))) (b ∷ s))

pub bytes_chunks : (s : List ℕ) → bytes_all (chunks s) ≡ s
unfolding chunks
bytes_chunks s = bytes_after 0 s

-- ---- a text's parts up to a place between two of them, and from there on

-- how many bytes some parts have
abbrev pub size : List Chunk → ℕ
size xs = length (bytes_all xs)

bytes_append : (xs ys : List Chunk) → bytes_all (xs ++ ys) ≡ bytes_all xs ++ bytes_all ys
unfolding bytes_all
bytes_append [] ys = refl
bytes_append (x ∷ xs) ys = rw (bytes_append xs ys) (sym (append_assoc (bytes_of x) (bytes_all xs) (bytes_all ys)))

size_append : (xs ys : List Chunk) → size (xs ++ ys) ≡ size xs + size ys
size_append xs ys = rw (bytes_append xs ys) (length-append (bytes_all xs) (bytes_all ys))

size_cons : (x : Chunk) (xs : List Chunk) → size (x ∷ xs) ≡ length (bytes_of x) + size xs
unfolding bytes_all
size_cons x xs = length-append (bytes_of x) (bytes_all xs)

-- the part at the front, where there is one
record Front (x : Chunk) (ys : List Chunk) (t : List ℕ) : Type 0 where
  some : 0 < length t
  first : x ≡ first_chunk t
  wide : length (bytes_of x) ≡ width_of (step_of t)
  rest : chunks (drop (width_of (step_of t)) t) ≡ ys

front_of : (x : Chunk) (ys : List Chunk) (t : List ℕ) → chunks t ≡ x ∷ ys → Front x ys t
front_of x ys [] e = let f : [] ≡ x ∷ ys = sym chunks_nil ∙ e in absurd (cc)
front_of x ys (b ∷ s) e =
    let q = sym (chunks_step (b ∷ s) (omega arith)) ∙ e in
    let f : first_chunk (b ∷ s) ≡ x = cc in record {
      some = omega arith;
      first = sym f;
      wide =
          rw (← f, chunk_bytes (step_of (b ∷ s)) (b ∷ s))
          (length-take-le (width_of (step_of (b ∷ s))) (b ∷ s) ((width_step (b ∷ s) (omega arith)).1));
      rest = cc;
    }

pub front : (xs ys : List Chunk) (t : List ℕ) → chunks t ≡ xs ++ ys → chunks (take (size xs) t) ≡ xs
unfolding bytes_all
front [] ys t e = chunks_nil
front (x ∷ xs) ys t e =
    let f = front_of x (xs ++ ys) t e in
    let w = width_of (step_of t) in
    let u = take (w + size xs) t in
    let s : step_of u ≡ step_of t = step_stable (w + size xs) t (omega arith) in
    let c : first_chunk u ≡ first_chunk t = first_stable (w + size xs) t (omega arith) in
    let some : 0 < length u = simp length-take (omega (arith, f.some, width_step t f.some)) in
    let rest : chunks (drop (width_of (step_of u)) u) ≡ xs = rw (s, drop_take w (size xs) t) (front xs ys (drop w t) f.rest) in
    rw (size_cons x xs, f.wide) (chunks_step u some ∙ rw (c, rest, ← f.first))

pub back : (xs ys : List Chunk) (t : List ℕ) → chunks t ≡ xs ++ ys → chunks (drop (size xs) t) ≡ ys
unfolding bytes_all
back [] ys t e = e
back (x ∷ xs) ys t e =
    let f = front_of x (xs ++ ys) t e in
    rw (size_cons x xs, f.wide, ← (drop-drop (size xs) (width_of (step_of t)) t)) (back xs ys (drop (width_of (step_of t)) t) f.rest)

-- ---- what a text is shown as, one part after the other

pub shown_append : (xs ys : List Chunk) → shown_all (xs ++ ys) ≡ shown_all xs ++ shown_all ys
unfolding shown_all
shown_append [] ys = refl
shown_append (x ∷ xs) ys = rw (shown_append xs ys) (sym (append_assoc (shown x) (shown_all xs) (shown_all ys)))

-- ---- well-formed throughout

abbrev pub is_char : Chunk → Bool
is_char (char bs) = true
is_char (junk bs) = false

pub all_chars : (xs : List Chunk) → list_all is_char xs ≡ well_formed xs
unfolding well_formed
all_chars [] = refl
all_chars (char bs ∷ xs) = all_chars xs
all_chars (junk bs ∷ xs) = refl

-- a well-formed text is shown as it stands
shown_whole : (xs : List Chunk) → well_formed xs ≡ true → shown_all xs ≡ bytes_all xs
unfolding shown_all shown bytes_all bytes_of well_formed
shown_whole [] h = refl
shown_whole (char bs ∷ xs) h = ap (λ (l : List ℕ). bs ++ l) (shown_whole xs h)
shown_whole (junk bs ∷ xs) h = absurd (cc)

pub lossy_whole : (s : List ℕ) → valid_utf8 s ≡ true → lossy s ≡ s
unfolding lossy valid_utf8
lossy_whole s h = shown_whole (chunks s) h ∙ bytes_chunks s

after_le : (k : ℕ) (s : List ℕ) → length (chunks_after k s) ≤ length s
unfolding chunks_after
after_le k [] = omega arith
after_le zero (b ∷ s) = let h = after_le (pred (width_of (step_of (b ∷ s)))) s in omega arith
after_le (suc k) (b ∷ s) = let h = after_le k s in omega arith

pub chunks_le : (s : List ℕ) → length (chunks s) ≤ length s
unfolding chunks
chunks_le s = after_le 0 s

-- ---- a loop over the parts: those so far are l, those that are left are ys, and the former end at `at`

pub record Passed (t : List ℕ) (l : List code.Chunk) (ys : List Chunk) (at : ℕ) : Type 0 where
  pub whole : chunks t ≡ map held l ++ ys
  pub place : at ≡ size (map held l)
  pub fits : at ≤ length t

pub passed_none : (t : List ℕ) → Passed t [] (chunks t) 0
unfolding bytes_all
passed_none t = record { whole = refl; place = refl; fits = omega arith }

module _ {t : List ℕ} {l : List code.Chunk} {ys : List Chunk} {at : ℕ} (p : Passed t l ys at) where
  pub passed_front : chunks (take at t) ≡ map held l
  passed_front = rw p.place (front (map held l) ys t p.whole)

  pub passed_back : chunks (drop at t) ≡ ys
  passed_back = rw p.place (back (map held l) ys t p.whole)

  module _ (x : code.Chunk) {zs : List Chunk} {n : ℕ} (e : ys ≡ held x ∷ zs) (w : n ≡ length (bytes_of (held x))) where
    pub passed_fits : at + n ≤ length t
    passed_fits = omega (arith, ap size p.whole, ap size e, size_append (map held l) ys, size_cons (held x) zs, ap length (bytes_chunks t), p.place, w)

    pub passed_more : Passed t (l ++ x ∷ []) zs (at + n)
    unfolding bytes_all
    passed_more = record {
      whole = p.whole ∙ rw (e, map-append, append_assoc);
      place = rw (map-append, size_append, p.place, w, append-nil);
      fits = passed_fits;
    }

  -- where m more parts would have made n
  pub passed_taken : (n m : ℕ) → length l + m ≡ n → (0 < m → ys ≡ []) → chunks (take at t) ≡ take n (chunks t)
  passed_taken n m h e =
      let k = length-map l held in
      passed_front
      ∙ elim (dec_lt 0 m) [
        | yes w ↦ rw (p.whole, e w, append-nil) (sym (take_all n (map held l) (omega arith)))
        | no w ↦ rw p.whole (sym (take_at (map held l) ys n (omega arith)))
      ]
