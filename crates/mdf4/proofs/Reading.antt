-- Agreement of two recordings on what the first one's state has read, and what it makes equal.
use mathlib.Core.Path.{◌≡◌, refl, sym}
use mathlib.Core.Bool.{cond, Bool, true, false, not, ◌||◌, ◌&&◌, or-true}
use mathlib.Core.List.{List, [], ◌∷◌, ◌++◌, map, append_assoc, append-nil}
use Prim.Native.Nat.{ℕ, ◌+◌, ◌-◌, ◌≤◌, ◌<◌, ◌^◌, min, max}
use native.Mathlib.Omega.{arith}
use lib.Dec.{leb, ltb, eqb}
use lib.ListN.{length, get_or}
use borrow.Author.Tests.{leb-true, lt-ltb, le-leb, ne_eqb}
use Rattle.mdf4.specs.Bytes.{bytes, num, Range, within, inside, concat_map}
use Rattle.mdf4.specs.Act.{Refusal, refusal, Out, ok, and_then, check, Kind, ID, HD, DG, CG, CN, SI, TX, MD, DT, SD, DL, UT, UD, Row, Link, State, Limits}
use Rattle.mdf4.specs.Kinds.{RecordLayout, read_len, read_block, read_of, make_link, name_link, name_ok, name_check, name_is_text, block_len, name_head, name_len, is, shape, data_at, rest}
use Rattle.mdf4.specs.Walk.{row_of, index_of, push, after_reading, content_ok, targets_ok}
use Rattle.mdf4.specs.Reads.{leads_to_block, link_ranges, link_extent, named_ranges, name_ranges, links_at, ranges_at, row_ranges, read_ranges, kept_ranges, spared_ranges}
use Rattle.mdf4.proofs.Bytes.{inside_append, or_left, or_right, bytes_agree, concat_map_inside, concat_map_one}
use Rattle.mdf4.proofs.Results.{and_then_ok, check_ok, ok_both, Both, on, off}

-- the links of all rows, in the rows' order
unfoldable pub row_links : List ℕ → List Row → List Link
row_links r [] = []
row_links r (w ∷ ws) = links_at r w.kind w.off ++ row_links r ws

pub row_links_snoc : (r : List ℕ) (ws : List Row) (w : Row) → row_links r (ws ++ w ∷ []) ≡ row_links r ws ++ links_at r w.kind w.off
unfolding row_links
row_links_snoc r [] w = append-nil (links_at r w.kind w.off)
row_links_snoc r (v ∷ ws) w = rw (row_links_snoc r ws w) (sym (append_assoc (links_at r v.kind v.off) (row_links r ws) (links_at r w.kind w.off)))

abbrev pub Reads : List ℕ → State → ℕ → Type 0
Reads r s i = inside i (read_ranges r s) ≡ true

-- two recordings of one length agree on what the first one's state has read
pub record Agree (r r' : List ℕ) (s : State) : Type 0 where
  pub size : length r ≡ length r'
  pub at : (i : ℕ) → i < length r → Reads r s i → get_or r i 0 ≡ get_or r' i 0

-- what a range of a list holds, the list holds
pub within_in : (i a n : ℕ) → a ≤ i → i < a + n → (ps : List Range) → inside i ((a, a + n) ∷ ps) ≡ true
unfolding inside within
within_in i a n h g ps = rw (le-leb a i h, lt-ltb i (a + n) g)

-- a state's reads after a push: old ones, the row's, the links'
module _ (r : List ℕ) (k : Kind) (w : Row) (ls : List Link) (s : State) (i : ℕ) where
  pub reads_push : inside i (read_ranges r (push k w ls s))
      ≡ ((inside i (concat_map (row_ranges r) s.rows) || inside i (row_ranges r w)) || (inside i (concat_map (link_ranges (length r)) s.links) || inside i (concat_map (link_ranges (length r)) ls)))
  unfolding read_ranges push
  reads_push =
      simp (inside_append, concat_map_inside, concat_map_one)

  pub old_reads : Reads r s i → Reads r (push k w ls s) i
  unfolding read_ranges
  old_reads h = rw reads_push (go (inside i (concat_map (row_ranges r) s.rows)) (inside i (concat_map (link_ranges (length r)) s.links)) (rw inside_append at h))
    where
      go : (a b : Bool) → (a || b) ≡ true → ((a || inside i (row_ranges r w)) || (b || inside i (concat_map (link_ranges (length r)) ls))) ≡ true
      go true b e = refl
      go false b e = rw e (or-true (inside i (row_ranges r w)))

  pub row_read : inside i (row_ranges r w) ≡ true → Reads r (push k w ls s) i
  row_read h = rw (reads_push, h, or-true)

  pub link_read : inside i (concat_map (link_ranges (length r)) ls) ≡ true → Reads r (push k w ls s) i
  link_read h = rw (reads_push, h) (simp or-true)

-- Inversions

pub read_is : (k : Kind) (r : List ℕ) (a : ℕ) (o : List ℕ) → read_block k r a ≡ ok o → o ≡ bytes r a (read_len k r a)
unfolding read_block read_of
read_is k r a o e =
    let e1 = (check_ok _ _ _ _ e).1 in
    let e2 = (check_ok _ _ _ _ e1).1 in
    let e3 = (check_ok _ _ _ _ e2).1 in
    let e4 = (check_ok _ _ _ _ e3).1 in
    let e5 = (check_ok _ _ _ _ e4).1 in
    cc

-- an accepted block begins inside the recording
pub read_inside : (k : Kind) (r : List ℕ) (a : ℕ) (o : List ℕ) → read_block k r a ≡ ok o → a ≤ length r
unfolding read_block read_of
read_inside k r a o e =
    let h : leb (a + (shape k).min_len) (length r) ≡ true = (check_ok _ _ _ _ e).0 in
    omega (arith, leb-true (a + (shape k).min_len) (length r) h)

-- and all that is read of it lies inside
pub read_whole : (k : Kind) (r : List ℕ) (a : ℕ) (o : List ℕ) → read_block k r a ≡ ok o → a + read_len k r a ≤ length r
unfolding read_block read_of read_len
read_whole k r a o e =
    let e1 = (check_ok _ _ _ _ e).1 in
    let e2 = (check_ok _ _ _ _ e1).1 in
    let e3 = (check_ok _ _ _ _ e2).1 in
    let e4 = (check_ok _ _ _ _ e3).1 in
    let l : leb (a + (shape k).min_len) (length r) ≡ true = (check_ok _ _ _ _ e).0 in
    let h : leb ((shape k).need (bytes r a 24) + rest k (bytes r a ((shape k).need (bytes r a 24)))) (length r - a) ≡ true = (check_ok _ _ _ _ e4).0 in
    omega (arith, leb-true (a + (shape k).min_len) (length r) l, leb-true ((shape k).need (bytes r a 24) + rest k (bytes r a ((shape k).need (bytes r a 24)))) (length r - a) h)

module _ (k : Kind) (a : ℕ) (h : RecordLayout) (s : State) (o : List ℕ) (ls : List Link) (nm : Out (Unit {0})) (x : List ℕ × List Link) (s' : State) where
  -- an accepted block answers its own bytes and links, and the state with its row
  pub after_is : after_reading k a h s o ls nm ≡ ok (x, s') → (x ≡ (o, ls)) × (s' ≡ push k (row_of k a h s o ls) ls s)
  unfolding after_reading
  after_is e =
      let e1 = (and_then_ok _ _ _ e).2 in
      let e2 = (and_then_ok _ _ _ e1).2 in
      let e3 = (and_then_ok _ _ _ e2).2 in
      let e4 = (check_ok _ _ _ _ e3).1 in
      let e5 = (check_ok _ _ _ _ e4).1 in
      let e6 = (check_ok _ _ _ _ e5).1 in
      (ok_both x (o, ls) s' _ (sym e6))

-- the state with other limits
unfoldable pub lending : Limits → State → State
lending lim s = record {
  visited = s.visited;
  rows = s.rows;
  links = s.links;
  dg_counter = s.dg_counter;
  cg_counter = s.cg_counter;
  cn_counter = s.cn_counter;
  from_block = s.from_block;
  from_link = s.from_link;
  lent = lim;
}

-- an accepted block is, with other limits, accepted with the same row or refused for them
pub after_lending : (lim : Limits) (k : Kind) (a : ℕ) (h : RecordLayout) (s : State) (o : List ℕ) (ls : List Link) (nm : Out (Unit {0})) (x : List ℕ × List Link) (s' : State)
    → after_reading k a h s o ls nm ≡ ok (x, s')
    → Both (after_reading k a h (lending lim s) o ls nm) (after_reading k a h (lending lim s) o ls nm) (x, lending lim s')
unfolding after_reading and_then check lending push row_of index_of
after_lending lim k a h s o ls nm x s' e =
    let e1 = and_then_ok (content_ok k o) _ (x, s') e in
    let e2 = and_then_ok nm _ (x, s') e1.2 in
    let e3 = and_then_ok (targets_ok ((shape k).targets o)) _ (x, s') e2.2 in
    let e4 = check_ok (ltb (a + (shape k).size o) (2 ^ 64)) (refusal 7 a a ((shape k).size o)) _ (x, s') e3.2 in
    let q = after_is k a h s o ls nm x s' e in
    let p : ◌≡◌ {A = Out ((List ℕ × List Link) × State)} (ok (x, lending lim s')) (ok ((o, ls), lending lim (push k (row_of k a h s o ls) ls s))) = (λ i. ok (q.0 i, lending lim (q.1 i))) in
    rw (e1.1, e2.1, e3.1, e4.0) (go (ltb (length s.rows) lim.blocks) (leb (length s.links + length ls) lim.links) _ _ (sym p))
  where
    go : (b c : Bool) (y z : Refusal) {p p' : (List ℕ × List Link) × State} → ◌≡◌ {A = Out ((List ℕ × List Link) × State)} (ok p) (ok p')
        → Both (and_then (check b y) (λ u. and_then (check c z) (λ u. ok p))) (and_then (check b y) (λ u. and_then (check c z) (λ u. ok p))) p'
    go true true y z e = on e e
    go true false y z e = off z refl refl
    go false c y z e = off y refl refl

-- Agreement on the bytes that each part reads

pub need_least : (k : Kind) (h : List ℕ) → 24 ≤ (shape k).need h
unfolding shape data_at
need_least ID h = omega arith
need_least HD h = omega arith
need_least DG h = omega arith
need_least CG h = omega arith
need_least CN h = omega arith
need_least SI h = omega arith
need_least TX h = omega arith
need_least MD h = omega arith
need_least DT h = omega arith
need_least SD h = omega arith
need_least DL h = omega arith
need_least UT h = omega arith
need_least UD h = omega arith

name_len_least : (len : ℕ) (l : Link) (h : List ℕ) → 24 ≤ name_len len l h
unfolding name_len
name_len_least len l h = go (leb (l.target + max 24 (block_len h)) len)
  where
    go : (b : Bool) → 24 ≤ cond b (max 24 (block_len h)) 24
    go true = omega arith
    go false = omega arith

-- what is read at a link's target: the mark, and of a block the header
mark_read : (len : ℕ) (l : Link) (i : ℕ) → eqb l.found 0 ≡ false → l.target ≤ i → i < l.target + 4 → inside i (link_ranges len l) ≡ true
unfolding link_ranges
mark_read len l i e m u = go (leads_to_block len l)
  where
    go : (b : Bool) → inside i (cond b ((l.target, l.target + 24) ∷ []) (cond (eqb l.found 0) [] ((l.target, l.target + 4) ∷ []))) ≡ true
    go true = within_in i l.target 24 m (omega arith) []
    go false = rw e (within_in i l.target 4 m u [])

pub header_read : (len : ℕ) (l : Link) (i : ℕ) → leads_to_block len l ≡ true → l.target ≤ i → i < l.target + 24 → inside i (link_ranges len l) ≡ true
unfolding link_ranges
header_read len l i e m u = rw e (within_in i l.target 24 m u [])

module _ (r r' : List ℕ) (same : length r ≡ length r') where
  -- own bytes: the recordings agree on the span
  module _ (k : Kind) (a : ℕ) (f : (i : ℕ) → i < length r → a ≤ i → i < a + read_len k r a → get_or r i 0 ≡ get_or r' i 0) where
    part : (n : ℕ) → n ≤ read_len k r a → bytes r a n ≡ bytes r' a n
    part n h = bytes_agree r r' a n same (λ i l m g. f i l m (omega arith))

    pub head_same : bytes r a 24 ≡ bytes r' a 24
    unfolding read_len
    head_same = part 24 (omega (arith, need_least k (bytes r a 24)))

    body_same : bytes r a ((shape k).need (bytes r a 24)) ≡ bytes r' a ((shape k).need (bytes r a 24))
    unfolding read_len
    body_same = part ((shape k).need (bytes r a 24)) (omega arith)

    pub read_len_same : read_len k r a ≡ read_len k r' a
    unfolding read_len
    read_len_same = rw (← head_same, ← body_same)

    pub block_bytes_same : bytes r a (read_len k r a) ≡ bytes r' a (read_len k r a)
    block_bytes_same = part (read_len k r a) (omega arith)

    pub read_same : read_block k r a ≡ read_block k r' a
    unfolding read_block
    read_same = rw (← same, ← read_len_same, ← head_same, ← body_same, ← block_bytes_same)

  -- a link: the recordings agree on what is read at its target
  pub link_same : (t : ℕ) → ((i : ℕ) → i < length r → inside i (link_ranges (length r) (make_link r t)) ≡ true → get_or r i 0 ≡ get_or r' i 0) → make_link r t ≡ make_link r' t
  unfolding make_link num
  link_same t f = rw (← same) (go (not (eqb t 0) && leb (t + 4) (length r)) f)
    where
      go : (b : Bool) → ((i : ℕ) → i < length r → inside i (link_ranges (length r) (record { target = t; found = cond b (1 + num r t 4) 0 })) ≡ true → get_or r i 0 ≡ get_or r' i 0)
          → ◌≡◌ {A = Link} (record { target = t; found = cond b (1 + num r t 4) 0 }) (record { target = t; found = cond b (1 + num r' t 4) 0 })
      go true g = rw (bytes_agree r r' t 4 same (λ i l m u. g i l (mark_read (length r) _ i (ne_eqb (1 + num r t 4) 0 (λ z. omega arith)) m u)))
      go false g = refl

  -- the extent that it keeps
  extent_same : (l : Link) → ((i : ℕ) → i < length r → inside i (link_ranges (length r) l) ≡ true → get_or r i 0 ≡ get_or r' i 0) → link_extent r l ≡ link_extent r' l
  unfolding link_extent
  extent_same l f = rw (← same) (go (leads_to_block (length r) l) refl)
    where
      go : (b : Bool) → leads_to_block (length r) l ≡ b
          → cond {A = List Range} b ((l.target, min (l.target + block_len (bytes r l.target 24)) (length r)) ∷ []) []
          ≡ cond b ((l.target, min (l.target + block_len (bytes r' l.target 24)) (length r)) ∷ []) []
      go true e = rw (bytes_agree r r' l.target 24 same (λ i q m u. f i q (header_read (length r) l i e m u)))
      go false e = refl

  pub extents_same : (ls : List Link) → ((i : ℕ) → i < length r → inside i (concat_map (link_ranges (length r)) ls) ≡ true → get_or r i 0 ≡ get_or r' i 0)
      → concat_map (link_extent r) ls ≡ concat_map (link_extent r') ls
  unfolding concat_map
  extents_same [] f = refl
  extents_same (l ∷ ls) f =
      let p = extent_same l (λ i q h. f i q (rw inside_append (or_left _ _ h))) in
      let q = extents_same ls (λ i q h. f i q (rw inside_append (or_right (inside i (link_ranges (length r) l)) _ h))) in
      rw (p, q)

  pub links_same : (ts : List ℕ) → ((i : ℕ) → i < length r → inside i (concat_map (link_ranges (length r)) (map (make_link r) ts)) ≡ true → get_or r i 0 ≡ get_or r' i 0)
      → map (make_link r) ts ≡ map (make_link r') ts
  unfolding concat_map
  links_same [] f = refl
  links_same (t ∷ ts) f =
      let p = link_same t (λ i l h. f i l (rw inside_append (or_left _ _ h))) in
      let q = links_same ts (λ i l h. f i l (rw inside_append (or_right (inside i (link_ranges (length r) (make_link r t))) _ h))) in
      rw (p, q)

  -- a name: the recordings agree on its bytes where it is a text
  pub name_head_same : (l : Link) → ((i : ℕ) → i < length r → inside i (name_ranges (length r) l (name_head r l)) ≡ true → get_or r i 0 ≡ get_or r' i 0)
      → name_head r l ≡ name_head r' l
  unfolding name_head name_ranges
  name_head_same l f = rw (← same) (go (name_is_text (length r) l) f)
    where
      go : (b : Bool) → ((i : ℕ) → i < length r → inside i (cond b ((l.target, l.target + name_len (length r) l (cond b (bytes r l.target 24) [])) ∷ []) []) ≡ true → get_or r i 0 ≡ get_or r' i 0)
          → cond b (bytes r l.target 24) [] ≡ cond b (bytes r' l.target 24) []
      go true g = bytes_agree r r' l.target 24 same (λ i w m u. g i w
          (within_in i l.target (name_len (length r) l (bytes r l.target 24)) m (omega (arith, name_len_least (length r) l (bytes r l.target 24))) []))
      go false g = refl

  pub name_ok_same : (k : Kind) (ls : List Link) → ((i : ℕ) → i < length r → inside i (named_ranges k r ls) ≡ true → get_or r i 0 ≡ get_or r' i 0)
      → name_ok k r ls ≡ name_ok k r' ls
  unfolding name_ok named_ranges
  name_ok_same k ls f = go (is k CN) f
    where
      go : (b : Bool) → ((i : ℕ) → i < length r → inside i (cond b (name_ranges (length r) (name_link ls) (name_head r (name_link ls))) []) ≡ true → get_or r i 0 ≡ get_or r' i 0)
          → cond b (name_check (length r) (name_link ls) (name_head r (name_link ls))) (ok tt) ≡ cond b (name_check (length r') (name_link ls) (name_head r' (name_link ls))) (ok tt)
      go true g = rw (← same, name_head_same (name_link ls) g)
      go false g = refl

  named_ranges_same : (k : Kind) (ls : List Link) → ((i : ℕ) → i < length r → inside i (named_ranges k r ls) ≡ true → get_or r i 0 ≡ get_or r' i 0)
      → named_ranges k r ls ≡ named_ranges k r' ls
  unfolding name_ok named_ranges
  named_ranges_same k ls f = go (is k CN) f
    where
      go : (b : Bool) → ((i : ℕ) → i < length r → inside i (cond b (name_ranges (length r) (name_link ls) (name_head r (name_link ls))) []) ≡ true → get_or r i 0 ≡ get_or r' i 0)
          → cond b (name_ranges (length r) (name_link ls) (name_head r (name_link ls))) ([]) ≡ cond b (name_ranges (length r') (name_link ls) (name_head r' (name_link ls))) ([])
      go true g = rw (← same, name_head_same (name_link ls) g)
      go false g = refl

  -- the read bytes themselves are the same
  module _ (k : Kind) (a : ℕ)
      (f : (i : ℕ) → i < length r → inside i (ranges_at r k a) ≡ true → get_or r i 0 ≡ get_or r' i 0)
      (g : (i : ℕ) → i < length r → inside i (concat_map (link_ranges (length r)) (links_at r k a)) ≡ true → get_or r i 0 ≡ get_or r' i 0) where
    pub own_agree : (i : ℕ) → i < length r → a ≤ i → i < a + read_len k r a → get_or r i 0 ≡ get_or r' i 0
    unfolding ranges_at
    own_agree i l m u = f i l (within_in i a (read_len k r a) m u _)

    pub links_at_same : links_at r k a ≡ links_at r' k a
    unfolding links_at
    links_at_same = rw (← read_len_same k a own_agree, ← block_bytes_same k a own_agree) (links_same ((shape k).targets (bytes r a (read_len k r a))) g)

    pub ranges_at_same : ranges_at r k a ≡ ranges_at r' k a
    unfolding ranges_at inside
    ranges_at_same = rw (← read_len_same k a own_agree, ← links_at_same, named_ranges_same k (links_at r k a) (λ i l q. f i l (or_right (within i (a, a + read_len k r a)) _ q)))

  rows_same : (ws : List Row)
      → ((i : ℕ) → i < length r → inside i (concat_map (row_ranges r) ws) ≡ true → get_or r i 0 ≡ get_or r' i 0)
      → ((i : ℕ) → i < length r → inside i (concat_map (link_ranges (length r)) (row_links r ws)) ≡ true → get_or r i 0 ≡ get_or r' i 0)
      → concat_map (row_ranges r) ws ≡ concat_map (row_ranges r') ws
  unfolding concat_map row_links
  rows_same [] f g = refl
  rows_same (w ∷ ws) f g =
      let p = ranges_at_same w.kind w.off (λ i l h. f i l (rw inside_append (or_left _ _ h))) (λ i l h. g i l (rw concat_map_inside (or_left _ _ h))) in
      let q = rows_same ws (λ i l h. f i l (rw inside_append (or_right (inside i (row_ranges r w)) _ h)))
      (λ i l h. g i l (rw concat_map_inside (or_right (inside i (concat_map (link_ranges (length r)) (links_at r w.kind w.off))) _ h))) in
      rw (p, q)

pub read_ranges_same : (r r' : List ℕ) (s : State) → s.links ≡ row_links r s.rows → Agree r r' s → read_ranges r s ≡ read_ranges r' s
unfolding read_ranges
read_ranges_same r r' s z c =
    rw (
      rows_same r r' c.size s.rows
          (λ i l h. c.at i l (rw inside_append (or_left _ _ h)))
          (λ i l h. c.at i l (rw (inside_append, z) (or_right (inside i (concat_map (row_ranges r) s.rows)) _ h))),
      c.size,
    )

pub kept_ranges_same : (r r' : List ℕ) (s : State) → Agree r r' s → kept_ranges r s ≡ kept_ranges r' s
unfolding kept_ranges read_ranges
kept_ranges_same r r' s c =
    extents_same r r' c.size s.links (λ i l h. c.at i l (rw inside_append (or_right (inside i (concat_map (row_ranges r) s.rows)) _ h)))

pub spared_ranges_same : (r r' : List ℕ) (s : State) → s.links ≡ row_links r s.rows → Agree r r' s → spared_ranges r s ≡ spared_ranges r' s
unfolding spared_ranges
spared_ranges_same r r' s z c = rw (read_ranges_same r r' s z c, kept_ranges_same r r' s c)
