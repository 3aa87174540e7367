-- What the scratch table takes up: the extents of the blocks and the bytes that are read or kept, in as many rows as there are ranges
-- of these.
use mathlib.Core.Path.{◌≡◌, refl, sym, ap, ◌∙◌}
use mathlib.Core.Bool.{Bool, true, false, cond, not, ◌||◌, ◌&&◌, or_assoc, or-false}
use mathlib.Core.List.{List, [], ◌∷◌, ◌++◌, map}
use Prim.Native.Nat.{ℕ, suc, ◌+◌, ◌-◌, ◌%◌, ◌≤◌, ◌<◌, min, max}
use native.Mathlib.Omega.{arith}
use lib.Dec.{eqb, leb, ltb}
use lib.ListN.{length, get_or, length-append}
use borrow.Author.Tests.{lt-ltb, le-ltb, leb-true, ltb-true, ltb-false}
use Rattle.mdf4.specs.Bytes.{Range, bytes, num, within, inside, concat_map}
use Rattle.mdf4.specs.Act.{Kind, CN, TX, Row, Link, State}
use Rattle.mdf4.specs.Kinds.{shape, is, mark_of, read_len, make_link, leads_to, name_link, name_is_text, name_head, name_len, block_len}
use Rattle.mdf4.specs.Reads.{leads_to_block, link_ranges, link_extent, name_ranges, named_ranges, links_at, ranges_at, row_ranges}
use Rattle.mdf4.specs.Reads.{read_ranges, kept_ranges, spared_ranges}
use Rattle.mdf4.specs.Layout.{insert, sort, extent}
use Rattle.mdf4.proofs.Bytes.{inside_append, and_right}
use Rattle.mdf4.proofs.Lists.{All, all_append}
use Rattle.mdf4.proofs.Reading.{read_whole}
use Rattle.mdf4.proofs.Good.{Inv, Readable}
use Rattle.mdf4.proofs.Linked.{Found, links_found}
use Rattle.tables.specs.Laid.{Printable}
use Rattle.tables.specs.Rows.{row_of_words, link_of_words}
use Rattle.scratch_rows.specs.Covers.{cover, row_cover, linked_end, block_cover, linked_cover, target_cover, link_cover, covers}
use Rattle.scratch_rows.proofs.Lengths.{read_least}

-- sorting rows keeps what they give
module _ (f : Row → List Range) where
  insert_inside : (j : ℕ) (w : Row) (vs : List Row) → inside j (concat_map f (insert w vs)) ≡ (inside j (f w) || inside j (concat_map f vs))
  unfolding insert concat_map
  insert_inside j w [] = inside_append j (f w) []
  insert_inside j w (v ∷ vs) = go (leb w.off v.off) (insert_inside j w vs)
    where
      swap : (a b c : Bool) → (a || (b || c)) ≡ (b || (a || c))
      swap true true c = refl
      swap true false c = refl
      swap false b c = refl

      go : (b : Bool) → inside j (concat_map f (insert w vs)) ≡ (inside j (f w) || inside j (concat_map f vs))
          → inside j (concat_map f (cond b (w ∷ v ∷ vs) (v ∷ insert w vs))) ≡ (inside j (f w) || inside j (f v ++ concat_map f vs))
      go true h = inside_append j (f w) (f v ++ concat_map f vs)
      go false h =
          rw (inside_append j (f v) (concat_map f (insert w vs)), inside_append j (f v) (concat_map f vs), h)
          (swap (inside j (f v)) (inside j (f w)) (inside j (concat_map f vs)))

  sort_inside : (j : ℕ) (ws : List Row) → inside j (concat_map f (sort ws)) ≡ inside j (concat_map f ws)
  unfolding sort concat_map
  sort_inside j [] = refl
  sort_inside j (w ∷ ws) = insert_inside j w (sort ws) ∙ rw (sort_inside j ws) (sym (inside_append j (f w) (concat_map f ws)))

  insert_length : (w : Row) (vs : List Row) → length (concat_map f (insert w vs)) ≡ length (f w) + length (concat_map f vs)
  unfolding insert concat_map
  insert_length w [] = length-append (f w) []
  insert_length w (v ∷ vs) = go (leb w.off v.off) (insert_length w vs)
    where
      go : (b : Bool) → length (concat_map f (insert w vs)) ≡ length (f w) + length (concat_map f vs)
          → length (concat_map f (cond b (w ∷ v ∷ vs) (v ∷ insert w vs))) ≡ length (f w) + length (f v ++ concat_map f vs)
      go true h = length-append (f w) (f v ++ concat_map f vs)
      go false h = rw (length-append (f v) (concat_map f (insert w vs)), length-append (f v) (concat_map f vs)) (omega (arith, h))

  sort_length : (ws : List Row) → length (concat_map f (sort ws)) ≡ length (concat_map f ws)
  unfolding sort concat_map
  sort_length [] = refl
  sort_length (w ∷ ws) = insert_length w (sort ws) ∙ rw (sort_length ws) (sym (length-append (f w) (concat_map f ws)))

-- one row
wider : (a b j : ℕ) → ltb j (max a b) ≡ (ltb j a || ltb j b)
wider a b j = go (ltb j a) refl (ltb j b) refl
  where
    go : (x : Bool) → ltb j a ≡ x → (y : Bool) → ltb j b ≡ y → ltb j (max a b) ≡ (x || y)
    go true p y q = lt-ltb j (max a b) (omega (arith, ltb-true j a p))
    go false p true q = lt-ltb j (max a b) (omega (arith, ltb-true j b q))
    go false p false q = le-ltb j (max a b) (omega (arith, ltb-false j a p, ltb-false j b q))

cover_inside : (r : List ℕ) (j : ℕ) (w : Row) → inside j (row_cover r w) ≡ (within j (extent w) || inside j (row_ranges r w))
unfolding row_cover cover ranges_at inside within
cover_inside r j w =
    rw (wider w.end (w.off + read_len w.kind r w.off) j) (dist (leb w.off j) (ltb j w.end) (ltb j (w.off + read_len w.kind r w.off)) _)
  where
    dist : (a b c d : Bool) → ((a && (b || c)) || d) ≡ ((a && b) || ((a && c) || d))
    dist true b c d = or_assoc b c d
    dist false b c d = refl

cover_length : (r : List ℕ) (w : Row) → length (row_cover r w) ≡ length (row_ranges r w)
unfolding row_cover cover ranges_at
cover_length r w = refl

mix : (a b c d : Bool) → ((a || b) || (c || d)) ≡ ((a || c) || (b || d))
mix true b c d = refl
mix false true true d = refl
mix false true false d = refl
mix false false c d = refl

-- all rows
rows_inside : (r : List ℕ) (j : ℕ) (ws : List Row)
    → inside j (concat_map (row_cover r) ws) ≡ (inside j (map extent ws) || inside j (concat_map (row_ranges r) ws))
unfolding concat_map inside
rows_inside r j [] = refl
rows_inside r j (w ∷ ws) =
    inside_append j (row_cover r w) (concat_map (row_cover r) ws)
    ∙ rw (cover_inside r j w, rows_inside r j ws, inside_append j (row_ranges r w) (concat_map (row_ranges r) ws))
    (mix (within j (extent w)) (inside j (row_ranges r w)) (inside j (map extent ws)) (inside j (concat_map (row_ranges r) ws)))

rows_length : (r : List ℕ) (ws : List Row) → length (concat_map (row_cover r) ws) ≡ length (concat_map (row_ranges r) ws)
unfolding concat_map
rows_length r [] = refl
rows_length r (w ∷ ws) =
    rw (length-append (row_cover r w) (concat_map (row_cover r) ws), length-append (row_ranges r w) (concat_map (row_ranges r) ws))
    (omega (arith, cover_length r w, rows_length r ws))

-- the links of a walk: what is taken up depends on their targets alone
links_covered : (r : List ℕ) (ls : List Link) → All (Found r) ls → concat_map (link_cover r) ls ≡ concat_map (linked_cover r) ls
unfolding concat_map link_cover target_cover
links_covered r [] a = refl
links_covered r (l ∷ ls) a = rw (links_covered r ls a.1) (ap (λ (m : Link). linked_cover r m ++ concat_map (linked_cover r) ls) (sym a.0))

-- what is taken up of a link, and of all, is what is read and what is kept
linked_inside : (r : List ℕ) (j : ℕ) (l : Link) → inside j (linked_cover r l) ≡ (inside j (link_ranges (length r) l) || inside j (link_extent r l))
unfolding linked_cover block_cover linked_end link_ranges link_extent inside within
linked_inside r j l = go (leads_to_block (length r) l) _
  where
    head : Range
    head = (l.target, l.target + 24)

    four : List Range
    four = cond (eqb l.found 0) [] ((l.target, l.target + 4) ∷ [])

    dist : (a b c : Bool) → ((a && b) || ((a && (b || c)) || false)) ≡ (((a && b) || false) || ((a && c) || false))
    dist true true c = refl
    dist true false c = refl
    dist false b c = refl

    go : (b : Bool) (last : ℕ)
        → inside j (cond b (head ∷ (l.target, max (l.target + 24) last) ∷ []) (cond b (head ∷ []) four))
        ≡ (inside j (cond b (head ∷ []) four) || inside j (cond b ((l.target, last) ∷ []) []))
    go true last = rw (wider (l.target + 24) last j) (dist (leb l.target j) (ltb j (l.target + 24)) (ltb j last))
    go false last = sym (or-false (inside j four))

linked_length : (r : List ℕ) (l : Link) → length (linked_cover r l) ≡ length (link_ranges (length r) l) + length (link_extent r l)
unfolding linked_cover block_cover linked_end link_ranges link_extent
linked_length r l =
    let last = min (l.target + block_len (bytes r l.target 24)) (length r) in
    let four : List Range = cond (eqb l.found 0) [] ((l.target, l.target + 4) ∷ []) in
    go (leads_to_block (length r) l) (l.target, l.target + 24) (l.target, last) (l.target, max (l.target + 24) last) four
  where
    go : (b : Bool) (p q x : Range) (ps : List Range)
        → length (cond b (p ∷ x ∷ []) (cond b (p ∷ []) ps)) ≡ length (cond b (p ∷ []) ps) + length (cond b (q ∷ []) [])
    go true p q x ps = refl
    go false p q x ps = omega arith

all_inside : (r : List ℕ) (j : ℕ) (ls : List Link)
    → inside j (concat_map (linked_cover r) ls) ≡ (inside j (concat_map (link_ranges (length r)) ls) || inside j (concat_map (link_extent r) ls))
unfolding concat_map inside
all_inside r j [] = refl
all_inside r j (l ∷ ls) =
    inside_append j (linked_cover r l) (concat_map (linked_cover r) ls)
    ∙ rw (
      linked_inside r j l,
      all_inside r j ls,
      inside_append j (link_ranges (length r) l) (concat_map (link_ranges (length r)) ls),
      inside_append j (link_extent r l) (concat_map (link_extent r) ls),
    )
    (mix (inside j (link_ranges (length r) l)) (inside j (link_extent r l)) (inside j (concat_map (link_ranges (length r)) ls))
    (inside j (concat_map (link_extent r) ls)))

all_length : (r : List ℕ) (ls : List Link)
    → length (concat_map (linked_cover r) ls) ≡ length (concat_map (link_ranges (length r)) ls) + length (concat_map (link_extent r) ls)
unfolding concat_map
all_length r [] = refl
all_length r (l ∷ ls) =
    rw (
      length-append (linked_cover r l) (concat_map (linked_cover r) ls),
      length-append (link_ranges (length r) l) (concat_map (link_ranges (length r)) ls),
      length-append (link_extent r l) (concat_map (link_extent r) ls),
    )
    (omega (arith, linked_length r l, all_length r ls))

-- a state of the walk
module _ (r : List ℕ) (s : State) (v : Inv r s) where
  links_are : concat_map (link_cover r) s.links ≡ concat_map (linked_cover r) s.links
  links_are = links_covered r s.links (links_found r s v)

  pub covers_length : length (covers r (sort s.rows) s.links) ≡ length (spared_ranges r s)
  unfolding covers spared_ranges read_ranges kept_ranges
  covers_length =
      rw (
        links_are,
        length-append (concat_map (row_cover r) (sort s.rows)) (concat_map (linked_cover r) s.links),
        length-append (concat_map (row_ranges r) s.rows ++ concat_map (link_ranges (length r)) s.links) (concat_map (link_extent r) s.links),
        length-append (concat_map (row_ranges r) s.rows) (concat_map (link_ranges (length r)) s.links),
      )
      (omega (arith, rows_length r (sort s.rows), sort_length (row_ranges r) s.rows, all_length r s.links))

  pub covers_inside : (j : ℕ) → inside j (covers r (sort s.rows) s.links) ≡ (inside j (map extent (sort s.rows)) || inside j (spared_ranges r s))
  unfolding covers spared_ranges read_ranges kept_ranges
  covers_inside j =
      rw (
        links_are,
        inside_append j (concat_map (row_cover r) (sort s.rows)) (concat_map (linked_cover r) s.links),
        inside_append j (concat_map (row_ranges r) s.rows ++ concat_map (link_ranges (length r)) s.links) (concat_map (link_extent r) s.links),
        inside_append j (concat_map (row_ranges r) s.rows) (concat_map (link_ranges (length r)) s.links),
        rows_inside r j (sort s.rows),
        sort_inside (row_ranges r) j s.rows,
        all_inside r j s.links,
      )
      (join (inside j (map extent (sort s.rows))) (inside j (concat_map (row_ranges r) s.rows))
      (inside j (concat_map (link_ranges (length r)) s.links)) (inside j (concat_map (link_extent r) s.links)))
    where
      join : (a b c d : Bool) → ((a || b) || (c || d)) ≡ (a || ((b || c) || d))
      join true b c d = refl
      join false true c d = refl
      join false false c d = refl

-- a range that holds a byte and begins in a file of len bytes, or at its end
abbrev pub Taken : ℕ → Range → Type 0
Taken len p = (p.0 < p.1) × (p.0 ≤ len)

name_taken : (len : ℕ) (l : Link) (h : List ℕ) → All (Taken len) (name_ranges len l h)
unfolding name_ranges name_is_text name_len
name_taken len l h = go (leads_to (shape TX).mark l && leb (l.target + 24) len) refl (leb (l.target + max 24 (block_len h)) len)
  where
    fits : (leads_to (shape TX).mark l && leb (l.target + 24) len) ≡ true → l.target + 24 ≤ len
    fits e = leb-true (l.target + 24) len (and_right (leads_to (shape TX).mark l) (leb (l.target + 24) len) e)

    go : (b : Bool) → (leads_to (shape TX).mark l && leb (l.target + 24) len) ≡ b → (c : Bool)
        → All (Taken len) (cond b ((l.target, l.target + cond c (max 24 (block_len h)) 24) ∷ []) [])
    go true e true = let z = fits e in ((omega arith, omega arith), tt)
    go true e false = let z = fits e in ((omega arith, omega arith), tt)
    go false e c = tt

named_taken : (k : Kind) (r : List ℕ) (ls : List Link) → All (Taken (length r)) (named_ranges k r ls)
unfolding named_ranges
named_taken k r ls = go (is k CN)
  where
    go : (b : Bool) → All (Taken (length r)) (cond b (name_ranges (length r) (name_link ls) (name_head r (name_link ls))) [])
    go true = name_taken (length r) _ _
    go false = tt

row_taken : (r : List ℕ) (w : Row) → Readable r w → All (Taken (length r)) (row_cover r w)
unfolding row_cover cover
row_taken r w e =
    let h = read_whole w.kind r w.off _ e in
    let l = read_least w.kind r w.off in
    ((omega arith, omega arith), named_taken w.kind r (links_at r w.kind w.off))

rows_taken : (r : List ℕ) (bs : List (List ℕ)) → ((i : ℕ) → i < length bs → Readable r (row_of_words (get_or bs i [])))
    → All (Taken (length r)) (concat_map (row_cover r) (map row_of_words bs))
unfolding concat_map
rows_taken r [] f = tt
rows_taken r (b ∷ bs) f =
    all_append (Taken (length r)) (row_cover r (row_of_words b)) (concat_map (row_cover r) (map row_of_words bs))
    (row_taken r (row_of_words b) (f 0 (omega arith))) (rows_taken r bs (λ i h. f (suc i) (omega arith)))

-- the four bytes at a target
four_taken : (r : List ℕ) (t : ℕ) → All (Taken (length r)) (cond (eqb (make_link r t).found 0) [] ((t, t + 4) ∷ []))
unfolding make_link
four_taken r t = go (not (eqb t 0) && leb (t + 4) (length r)) refl
  where
    one : (b : Bool) → t + 4 ≤ length r → All (Taken (length r)) (cond b [] ((t, t + 4) ∷ []))
    one true h = tt
    one false h = ((omega arith, omega arith), tt)

    go : (b : Bool) → (not (eqb t 0) && leb (t + 4) (length r)) ≡ b
        → All (Taken (length r)) (cond (eqb (cond b (1 + num r t 4) 0) 0) [] ((t, t + 4) ∷ []))
    go true e = one (eqb (1 + num r t 4) 0) (leb-true (t + 4) (length r) (and_right (not (eqb t 0)) (leb (t + 4) (length r)) e))
    go false e = tt

target_taken : (r : List ℕ) (t : ℕ) → All (Taken (length r)) (target_cover r t)
unfolding target_cover linked_cover block_cover linked_end link_ranges leads_to_block make_link
target_taken r t =
    go (eqb (((make_link r t).found - 1) % 65536) (mark_of "##")) (leb (t + 24) (length r)) refl (min (t + block_len (bytes r t 24)) (length r))
    (cond (eqb (make_link r t).found 0) [] ((t, t + 4) ∷ [])) (four_taken r t)
  where
    go : (a b : Bool) → leb (t + 24) (length r) ≡ b → (x : ℕ) (ps : List Range) → All (Taken (length r)) ps
        → All (Taken (length r)) (cond (a && b) ((t, t + 24) ∷ (t, max (t + 24) x) ∷ []) (cond (a && b) ((t, t + 24) ∷ []) ps))
    go true true e x ps f = let z = leb-true (t + 24) (length r) e in ((omega arith, omega arith), ((omega arith, omega arith), tt))
    go true false e x ps f = f
    go false b e x ps f = f

links_taken : (r : List ℕ) (ls : List Link) → All (Taken (length r)) (concat_map (link_cover r) ls)
unfolding concat_map link_cover
links_taken r [] = tt
links_taken r (l ∷ ls) =
    all_append (Taken (length r)) (target_cover r l.target) (concat_map (link_cover r) ls) (target_taken r l.target) (links_taken r ls)

pub covers_taken : {r : List ℕ} {bs ls : List (List ℕ)} → Printable r bs ls
    → All (Taken (length r)) (covers r (map row_of_words bs) (map link_of_words ls))
unfolding covers
covers_taken {r} {bs} {ls} p =
    all_append (Taken (length r)) (concat_map (row_cover r) (map row_of_words bs)) (concat_map (link_cover r) (map link_of_words ls))
    (rows_taken r bs (λ i h. (p.row i h).readable)) (links_taken r (map link_of_words ls))
