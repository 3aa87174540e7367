-- The links that the walk followed lead from every block but the ID to the header, and the path's bound cuts none short.
use mathlib.Core.Path.{◌≡◌, refl, sym, ap, ◌∙◌}
use mathlib.Core.Bool.{cond, Bool, true, false, ◌||◌}
use mathlib.Core.List.{List, [], ◌∷◌, ◌++◌, map}
use mathlib.Core.Logic.{◌⊎◌, inl, inr}
use Prim.Native.Nat.{ℕ, zero, suc, ◌+◌, ◌-◌, ◌≤◌, ◌<◌}
use native.Mathlib.Omega.{arith}
use lib.Dec.{leb, eqb}
use lib.ListN.{length, get_or, take, drop, length-take, length-drop, length-append, length-map, get_or-append, get_or-map}
use lib.Seq.{get_or-append_seam, get_or-take, get_or-drop}
use borrow.Author.Tests.{eqb-true, eqb-false, eq-eqb, ne_eqb}
use Rattle.mdf4.specs.Bytes.{concat_map}
use Rattle.mdf4.specs.Act.{ok, ID, HD, Row, Link, State, Limits, choose, pure, ◌>>=◌, ◌>>◌, elem, marked, visit, once}
use Rattle.mdf4.specs.Kinds.{no_records, null}
use Rattle.mdf4.specs.Walk.{row_of, push, enter, header_at, walk_header, walk_identification, start, walk}
use Rattle.mdf4.specs.Reads.{links_at}
use Rattle.mdf4.specs.Layout.{insert, sort, Layout, layout_of, layout}
use Rattle.mdf4.specs.Listing.{links_of}
use Rattle.mdf4.specs.Paths.{from_block_at, path_up, is_listed, path}
use Rattle.mdf4.specs.Answers.{row_words}
use Rattle.mdf4.specs.Demand3.{Origin, origins_of, origin_at, Led, Back, Followed, Leads}
use Rattle.mdf4.proofs.Bytes.{or_none}
use Rattle.mdf4.proofs.Results.{and_then_ok, ok_both}
use Rattle.mdf4.proofs.Good.{Inv, Placed, Distinct, offs, visit_is, entered_row}
use Rattle.mdf4.proofs.Trails.{no_row, row, Sound, now_has, now_sound, new_row, rows_are, trail_walk_from_header}
use Rattle.mdf4.proofs.Order.{Mem, elem_row, elem_none, elem_sort, mem_sort, sort_mem, sort_length}
use Rattle.mdf4.proofs.Laid.{walked, inv}

-- the walk lists the ID and the header first, by no link, and then what links of listed blocks lead to
record Begun (r : List ℕ) (s : State) : Type 0 where
  id : Row
  hd : Row
  more : List Row
  rows : s.rows ≡ id ∷ hd ∷ more
  id_off : id.off ≡ 0
  hd_off : hd.off ≡ header_at
  id_from : (id.from_block ≡ 0) × (id.from_link ≡ 0)
  hd_from : (hd.from_block ≡ 0) × (hd.from_link ≡ 0)
  sound : Sound r s

-- the state behind the ID
record Alone (s : State) : Type 0 where
  id : Row
  rows : s.rows ≡ id ∷ []
  off : id.off ≡ 0
  from : (id.from_block ≡ 0) × (id.from_link ≡ 0)
  still : (s.from_block ≡ 0) × (s.from_link ≡ 0)
  seen : elem 64 s.visited ≡ false

alone : (lim : Limits) (r : List ℕ) (s : State) → walk_identification r (start lim) ≡ ok (tt, s) → Alone s
unfolding walk_identification once choose start elem ◌>>◌ pure marked push row_of
alone lim r s e =
    let p = and_then_ok (visit ID 0 r (start lim)) _ (tt {0}, s) e in
    let v = visit_is ID 0 r (start lim) p.0 p.1 in
    let q = and_then_ok (enter ID 0 (no_records 0) r (marked 0 (start lim))) _ (tt {0}, s) (rw v at p.2) in
    let z : q.0.1 ≡ s = (ok_both tt tt q.0.1 s q.2).1 in
    let w = entered_row ID 0 (no_records 0) r (marked 0 (start lim)) q.0.0 q.0.1 q.1 in
    let g : s ≡ push ID (row_of ID 0 (no_records 0) (marked 0 (start lim)) w.0 q.0.0.1) q.0.0.1 (marked 0 (start lim)) = sym z ∙ w.2 in
    rw g (record {
      id = row_of ID 0 (no_records 0) (marked 0 (start lim)) w.0 q.0.0.1;
      rows = refl;
      off = refl;
      from = (refl, refl);
      still = (refl, refl);
      seen = refl;
    })

joined : (id hd : Row) (more xs ys zs : List Row) → xs ≡ id ∷ [] → ys ≡ xs ++ hd ∷ [] → zs ≡ ys ++ more → zs ≡ id ∷ hd ∷ more
joined id hd more xs ys zs p q s = rw (s, q, p)

headed : (fuel : ℕ) (r : List ℕ) (s s' : State) → Alone s → walk_header fuel r s ≡ ok (tt, s') → Begun r s'
unfolding walk_header once choose ◌>>◌ ◌>>=◌ marked row_of new_row
headed fuel r s s' a e =
    let p = and_then_ok (visit HD 64 r s) _ (tt {0}, s') (rw a.seen at e) in
    let v = visit_is HD 64 r s p.0 p.1 in
    let q = and_then_ok (enter HD 64 (no_records 0) r (marked 64 s)) _ (tt {0}, s') (rw v at p.2) in
    let b = q.0.0 in
    let some : 1 ≤ length s.rows = omega (arith, ap length a.rows) in
    let few : 2 ≤ length s.rows → ⊥ = λ l. omega (arith, ap length a.rows) in
    let has = now_has HD 64 (no_records 0) r (marked 64 s) b q.0.1 q.1 some in
    let sound = now_sound HD 64 (no_records 0) r (marked 64 s) b q.0.1 q.1 some (λ l. absurd (few l)) (record { led = λ i h l. absurd (omega (arith, ap length a.rows)) }) in
    let w = (trail_walk_from_header fuel b).went r q.0.1 tt s' q.2 has sound in
    let z = rows_are HD 64 (no_records 0) r (marked 64 s) b q.0.1 q.1 some in
    record {
      id = a.id;
      hd = new_row HD 64 (no_records 0) r (marked 64 s) b q.0.1 q.1 some;
      more = w.more;
      rows = joined a.id _ w.more s.rows q.0.1.rows s'.rows a.rows z w.grew;
      id_off = a.off;
      hd_off = refl;
      id_from = a.from;
      hd_from = a.still;
      sound = w.sound;
    }

begun : (lim : Limits) (r : List ℕ) (s : State) → walk r (start lim) ≡ ok (tt, s) → Begun r s
unfolding walk ◌>>◌
begun lim r s e =
    let p = and_then_ok (walk_identification r (start lim)) _ (tt {0}, s) e in
    headed (start lim).lent.visited r p.0.1 s (alone lim r p.0.1 p.1) p.2

-- a row is found by its offset, in the sorted rows too
from_insert : (w : Row) (ws : List Row) (a : ℕ) → elem w.off (offs ws) ≡ false → from_block_at (insert w ws) a ≡ from_block_at (w ∷ ws) a
unfolding insert from_block_at elem
from_insert w [] a d = refl
from_insert w (v ∷ vs) a d =
    let q = or_none (eqb w.off v.off) (elem w.off (offs vs)) d in
    go (leb w.off v.off) (eqb v.off a) refl (eqb w.off a) refl (eqb-false w.off v.off q.0) (from_insert w vs a q.1)
  where
    go : (b c : Bool) → eqb v.off a ≡ c → (e : Bool) → eqb w.off a ≡ e → (w.off ≡ v.off → ⊥) → from_block_at (insert w vs) a ≡ cond (eqb w.off a) w.from_block (from_block_at vs a)
        → from_block_at (cond b (w ∷ v ∷ vs) (v ∷ insert w vs)) a ≡ cond (eqb w.off a) w.from_block (cond (eqb v.off a) v.from_block (from_block_at vs a))
    go true c x e y n ih = refl
    go false true x true y n ih = absurd (n (eqb-true w.off a y ∙ sym (eqb-true v.off a x)))
    go false true x false y n ih = rw (x, y)
    go false false x e y n ih = rw (x, ih)

from_sort : (ws : List Row) (a : ℕ) → Distinct (offs ws) → from_block_at (sort ws) a ≡ from_block_at ws a
unfolding sort from_block_at
from_sort [] a d = refl
from_sort (w ∷ ws) a d = from_insert w (sort ws) a (elem_sort w.off ws ∙ d.0) ∙ rw (from_sort ws a d.1)

-- a row is found by its offset
pub from_row : (ws : List Row) (i : ℕ) (d : Row) → Distinct (offs ws) → i < length ws → from_block_at ws (get_or ws i d).off ≡ (get_or ws i d).from_block
unfolding from_block_at
from_row [] i d a h = absurd (omega arith)
from_row (w ∷ ws) zero d a h = rw (eq-eqb w.off w.off refl)
from_row (w ∷ ws) (suc i) d a h =
    let n : w.off ≡ (get_or ws i d).off → ⊥ = λ z. let y : ◌≡◌ {A = ℕ} 0 1 = cc (elem_row ws i d (omega arith), a.0) in omega arith in
    rw (ne_eqb w.off (get_or ws i d).off n) (from_row ws i d a.1 (omega arith))

among_row : (ws : List Row) (i : ℕ) → i < length ws → Mem (row ws i) ws
among_row [] i h = absurd (omega arith)
among_row (w ∷ ws) zero h = inl refl
among_row (w ∷ ws) (suc i) h = inr (among_row ws i (omega arith))

row_among : (ws : List Row) (w : Row) → Mem w ws → (i : ℕ) × (i < length ws) × (row ws i ≡ w)
row_among [] w m = elim m [ ]
row_among (v ∷ vs) w (inl e) = (0, omega arith, sym e)
row_among (v ∷ vs) w (inr m) = let p = row_among vs w m in (suc p.0, omega (arith, p.1), p.2)

-- no two rows have one offset
one_place : (ws : List Row) (i j : ℕ) → Distinct (offs ws) → i < length ws → j < length ws → (row ws i).off ≡ (row ws j).off → i ≡ j
one_place [] i j d h g e = absurd (omega arith)
one_place (w ∷ ws) zero zero d h g e = refl
one_place (w ∷ ws) zero (suc j) d h g e = let z : ◌≡◌ {A = ℕ} 0 1 = cc (elem_row ws j no_row (omega arith), d.0) in absurd (omega arith)
one_place (w ∷ ws) (suc i) zero d h g e = let z : ◌≡◌ {A = ℕ} 0 1 = cc (elem_row ws i no_row (omega arith), d.0) in absurd (omega arith)
one_place (w ∷ ws) (suc i) (suc j) d h g e = ap suc (one_place ws i j d.1 (omega arith) (omega arith) e)

-- a link with a target stands in the table
in_range : (ls : List Link) (n t : ℕ) → (get_or ls n null).target ≡ t → (t ≡ 0 → ⊥) → n < length ls
in_range [] n t e d = absurd (d (sym e))
in_range (l ∷ ls) zero t e d = omega arith
in_range (l ∷ ls) (suc n) t e d = omega (arith, in_range ls n t e d)

placed_row : (r : List ℕ) (ls : List Link) (ws : List Row) (i : ℕ) → Placed r ls ws → i < length ws
    → ((row ws i).first_link + (row ws i).link_count ≤ length ls) × (links_of ls (row ws i) ≡ links_at r (row ws i).kind (row ws i).off)
unfolding links_of
placed_row r ls [] i p h = absurd (omega arith)
placed_row r ls (w ∷ ws) zero p h = p.0
placed_row r ls (w ∷ ws) (suc i) p h = placed_row r ls ws i p.1 (omega arith)

-- what a row tells of links, and the rows read back from their words
unfoldable pub origin : Row → Origin
origin w = record { off = w.off; first_link = w.first_link; link_count = w.link_count; from_block = w.from_block; from_link = w.from_link }

pub origins_back : (v : List ℕ) (ws : List Row) (z : List ℕ) → origins_of (length ws) (concat_map (row_words v) ws ++ z) ≡ map origin ws
unfolding origins_of concat_map row_words origin
origins_back v [] z = refl
origins_back v (w ∷ ws) z = ap (λ (os : List Origin). origin w ∷ os) (origins_back v ws z)

origin_is : (ws : List Row) (i : ℕ) → origin_at (map origin ws) i ≡ origin (row ws i)
unfolding origin no_row
origin_is ws i = get_or-map origin ws i no_row

origin_off : (ws : List Row) (i : ℕ) → (origin_at (map origin ws) i).off ≡ (row ws i).off
unfolding origin
origin_off ws i = ap (λ (o : Origin). o.off) (origin_is ws i)

origin_from : (ws : List Row) (i : ℕ) → (origin_at (map origin ws) i).from_block ≡ (row ws i).from_block
unfolding origin
origin_from ws i = ap (λ (o : Origin). o.from_block) (origin_is ws i)

-- one link more: the path p, which leads to b, goes on to the row i, which names b
longer : (os : List Origin) (p : List ℕ) (a b i : ℕ) → Leads os p b → length p < length os → i < length os → (origin_at os i).off ≡ a → (origin_at os i).from_block ≡ b → Leads os (p ++ a ∷ []) a
longer os p a b i d few l e f = record {
  some = rw size (omega arith);
  most = rw size (omega arith);
  first = get_or-append p (a ∷ []) 0 0 d.some ∙ d.first;
  last = let z : length (p ++ a ∷ []) - 1 ≡ length p = omega (arith, size) in rw z (get_or-append_seam p a [] 0);
  step = λ k h. go k (omega (arith, size)) (eqb (k + 1) (length p)) refl;
}
  where
    size : length (p ++ a ∷ []) ≡ length p + 1
    size = length-append p (a ∷ [])

    go : (k : ℕ) → k < length p → (t : Bool) → eqb (k + 1) (length p) ≡ t
        → (j : ℕ) × (j < length os) × ((origin_at os j).off ≡ get_or (p ++ a ∷ []) (k + 1) 0) × ((origin_at os j).from_block ≡ get_or (p ++ a ∷ []) k 0)
    go k h true z =
        let q : k + 1 ≡ length p = eqb-true (k + 1) (length p) z in
        let u : k ≡ length p - 1 = omega arith in
        let x : get_or (p ++ a ∷ []) k 0 ≡ b = get_or-append p (a ∷ []) 0 k h ∙ rw u d.last in
        (i, l, e ∙ sym (rw q (get_or-append_seam p a [] 0)), f ∙ sym x)
    go k h false z =
        let n = eqb-false (k + 1) (length p) z in
        let m : k + 1 < length p = omega arith in
        let w = d.step k m in
        (w.0, w.1, w.2 ∙ sym (get_or-append p (a ∷ []) 0 (k + 1) m), w.3 ∙ sym (get_or-append p (a ∷ []) 0 k h))

-- a layout and the state behind it
module _ (r : List ℕ) (s : State) (first : Begun r s) (order : Inv r s) (y : Layout) (blocks_are : y.blocks ≡ sort s.rows) (links_are : y.state.links ≡ s.links) where
  abbrev os : List Origin
  os = map origin y.blocks

  abbrev ts : List ℕ
  ts = map (λ (l : Link). l.target) y.state.links

  from_is : (i : ℕ) → i < length s.rows → from_block_at y.blocks (row s.rows i).off ≡ (row s.rows i).from_block
  from_is i h = rw blocks_are (from_sort s.rows (row s.rows i).off order.apart ∙ from_row s.rows i no_row order.apart h)

  listed_is : (a : ℕ) → is_listed y.blocks a ≡ elem a (offs s.rows)
  unfolding is_listed
  listed_is a = rw blocks_are (elem_sort a s.rows)

  two : 2 ≤ length s.rows
  two = omega (arith, ap length first.rows)

  row_0 : (row s.rows 0).off ≡ 0
  row_0 = rw first.rows first.id_off

  row_1 : (row s.rows 1).off ≡ header_at
  row_1 = rw first.rows first.hd_off

  size : length os ≡ length s.rows
  size = length-map y.blocks origin ∙ rw blocks_are (sort_length s.rows)

  -- the i-th row of the walk is the only one at its offset
  not_id : (i : ℕ) → 1 ≤ i → i < length s.rows → (row s.rows i).off ≡ 0 → ⊥
  not_id i l h e = let z : i ≡ 0 = one_place s.rows i 0 order.apart h (omega arith) (e ∙ sym row_0) in omega arith

  not_header : (i : ℕ) → 2 ≤ i → i < length s.rows → (row s.rows i).off ≡ header_at → ⊥
  not_header i l h e = let z : i ≡ 1 = one_place s.rows i 1 order.apart h (omega arith) (e ∙ sym row_1) in omega arith

  -- where it stands in the table, and back
  place_in : (i : ℕ) → i < length s.rows → (p : ℕ) × (p < length y.blocks) × (row y.blocks p ≡ row s.rows i)
  place_in i h = row_among y.blocks (row s.rows i) (rw blocks_are (mem_sort s.rows (row s.rows i) (among_row s.rows i h)))

  place_of : (p : ℕ) → p < length os → (i : ℕ) × (i < length s.rows) × (row s.rows i ≡ row y.blocks p)
  place_of p h =
      let l : p < length y.blocks = omega (arith, length-map y.blocks origin) in
      row_among s.rows (row y.blocks p) (sort_mem s.rows (row y.blocks p) (rw (← blocks_are) (among_row y.blocks p l)))

  -- the link that was followed to the i-th row, seen in the tables
  module _ (i : ℕ) (h : 2 ≤ i) (l : i < length s.rows) (p q : ℕ) (e : row y.blocks p ≡ row s.rows i)
      (f : row y.blocks q ≡ row s.rows (first.sound.led i h l).at) where
    abbrev by : Row
    by = row s.rows (first.sound.led i h l).at

    placed : (by.first_link + by.link_count ≤ length s.links) × (links_of s.links by ≡ links_at r by.kind by.off)
    placed = placed_row r s.links s.rows (first.sound.led i h l).at order.placed (omega (arith, (first.sound.led i h l).below))

    target : (get_or (links_of s.links by) (row s.rows i).from_link null).target ≡ (row s.rows i).off
    target = rw (placed.1, (first.sound.led i h l).offset) (first.sound.led i h l).target

    shown : (row s.rows i).from_link < by.link_count
    unfolding links_of
    shown =
        let c : length (take by.link_count (drop by.first_link s.links)) ≡ by.link_count = simp (length-take, length-drop) (omega (arith, placed.0)) in
        rw c at (in_range (links_of s.links by) (row s.rows i).from_link (row s.rows i).off target (not_id i (omega arith) l))

    at_table : (get_or s.links (by.first_link + (row s.rows i).from_link) null).target ≡ (row s.rows i).off
    unfolding links_of
    at_table =
        let n = (row s.rows i).from_link in
        let z : get_or (take by.link_count (drop by.first_link s.links)) n null ≡ get_or s.links (by.first_link + n) null =
        get_or-take by.link_count (drop by.first_link s.links) n null shown ∙ get_or-drop by.first_link s.links n null in
        rw z at target

    led_to : Led os ts p q
    unfolding origin
    led_to = record {
      block = rw (origin_is y.blocks p, origin_is y.blocks q, e, f) (first.sound.led i h l).offset;
      shown = rw (origin_is y.blocks p, origin_is y.blocks q, e, f) shown;
      target = rw (origin_is y.blocks p, origin_is y.blocks q, e, f, links_are) (get_or-map (λ (k : Link). k.target) s.links (by.first_link + (row s.rows i).from_link) null ∙ at_table);
    }

  -- what holds of the header, and of each row of which it holds of the row whose link led to it, holds of every row but the ID
  upward : (P : ℕ → Type 0) → P 1 → ((i : ℕ) (h : 2 ≤ i) (l : i < length s.rows) → P (first.sound.led i h l).at → P i)
      → (k i : ℕ) → i ≤ k → 1 ≤ i → i < length s.rows → P i
  upward P one more zero i h l g = absurd (omega arith)
  upward P one more (suc k) i h l g = go (eqb i 1) refl (upward P one more k)
    where
      go : (b : Bool) → eqb i 1 ≡ b → ((j : ℕ) → j ≤ k → 1 ≤ j → j < length s.rows → P j) → P i
      go true z ih = let u : i ≡ 1 = eqb-true i 1 z in rw u one
      go false z ih =
          let n = eqb-false i 1 z in
          let m : 2 ≤ i = omega arith in
          let d = first.sound.led i m g in
          more i m g (ih d.at (omega (arith, d.below)) d.some (omega (arith, d.below)))

  -- from the i-th row, fewer than i steps back
  back : (i : ℕ) → 1 ≤ i → i < length s.rows → (p : ℕ) → row y.blocks p ≡ row s.rows i → (n : ℕ) × (n < i) × Back os ts n p
  unfolding origin
  back i l g = upward (λ i. (p : ℕ) → row y.blocks p ≡ row s.rows i → (n : ℕ) × (n < i) × Back os ts n p) one more i i (omega arith) l g
    where
      one : (p : ℕ) → row y.blocks p ≡ row s.rows 1 → (n : ℕ) × (n < 1) × Back os ts n p
      one p e = let x : (origin_at os p).off ≡ header_at = rw (origin_is y.blocks p, e) row_1 in (0, omega arith, x)

      more : (i : ℕ) (h : 2 ≤ i) (l : i < length s.rows)
          → ((p : ℕ) → row y.blocks p ≡ row s.rows (first.sound.led i h l).at → (n : ℕ) × (n < (first.sound.led i h l).at) × Back os ts n p)
          → (p : ℕ) → row y.blocks p ≡ row s.rows i → (n : ℕ) × (n < i) × Back os ts n p
      more i h l ih p e =
          let d = first.sound.led i h l in
          let q = place_in d.at (omega (arith, d.below)) in
          let w = ih q.0 q.2 in
          (suc w.0, omega (arith, w.1, d.below), (q.0, omega (arith, q.1, length-map y.blocks origin), led_to i h l p q.0 e q.2, w.2))

  -- the ID and the header were reached by no link
  zeros : (i : ℕ) → i < 2 → ((row s.rows i).from_block ≡ 0) × ((row s.rows i).from_link ≡ 0)
  zeros zero h = rw first.rows first.id_from
  zeros (suc zero) h = rw first.rows first.hd_from
  zeros (suc (suc i)) h = absurd (omega arith)

  early : (i : ℕ) → i < length s.rows → ((row s.rows i).off ≡ 0) ⊎ ((row s.rows i).off ≡ header_at) → i < 2
  early i h (inl z) = let n : i ≡ 0 = one_place s.rows i 0 order.apart h (omega (arith, two)) (z ∙ sym row_0) in omega arith
  early i h (inr z) = let n : i ≡ 1 = one_place s.rows i 1 order.apart h (omega (arith, two)) (z ∙ sym row_1) in omega arith

  followed : Followed os ts
  unfolding origin
  followed = record { none = none; back = to_header }
    where
      none : (p : ℕ) → p < length os → ((origin_at os p).off ≡ 0) ⊎ ((origin_at os p).off ≡ header_at) → ((origin_at os p).from_block ≡ 0) × ((origin_at os p).from_link ≡ 0)
      none p h o =
          let i = place_of p h in
          rw (origin_is y.blocks p, ← i.2) (zeros i.0 (early i.0 i.1 (rw (origin_is y.blocks p, ← i.2) at o)))

      not_first : (i : ℕ) → ((row s.rows i).off ≡ 0 → ⊥) → 1 ≤ i
      not_first zero d = absurd (d row_0)
      not_first (suc i) d = omega arith

      to_header : (p : ℕ) → p < length os → ((origin_at os p).off ≡ 0 → ⊥) → (k : ℕ) × (k < length os) × Back os ts k p
      to_header p h d =
          let i = place_of p h in
          let n = back i.0 (not_first i.0 (rw (origin_is y.blocks p, ← i.2) at d)) i.1 p (sym i.2) in
          (n.0, omega (arith, n.1, i.1, size), n.2)

  -- The path: the header's is itself, another block's is that of the block whose link led to it, and the block. The bound on its links
  -- cuts none short: n and m links are enough where the header stands k steps back.
  up : ℕ → ℕ → ℕ
  up zero a = a
  up (suc k) a = up k (from_block_at y.blocks a)

  enough : (k n m a : ℕ) → up k a ≡ header_at → k ≤ n → k ≤ m → path_up n y.blocks a ≡ path_up m y.blocks a
  unfolding path_up up
  enough k zero zero a e h g = refl
  enough zero zero (suc m) a e h g = rw (eq-eqb a header_at e)
  enough zero (suc n) zero a e h g = rw (eq-eqb a header_at e)
  enough zero (suc n) (suc m) a e h g = rw (eq-eqb a header_at e)
  enough (suc k) zero (suc m) a e h g = absurd (omega arith)
  enough (suc k) (suc n) zero a e h g = absurd (omega arith)
  enough (suc k) (suc n) (suc m) a e h g = rw (enough k n m (from_block_at y.blocks a) e (omega arith) (omega arith))

  reach : (i : ℕ) → 1 ≤ i → i < length s.rows → (n : ℕ) × (n < i) × (up n (row s.rows i).off ≡ header_at)
  unfolding up
  reach i l g = upward (λ i. (n : ℕ) × (n < i) × (up n (row s.rows i).off ≡ header_at)) (0, omega arith, row_1) more i i (omega arith) l g
    where
      more : (i : ℕ) (h : 2 ≤ i) (l : i < length s.rows)
          → (n : ℕ) × (n < (first.sound.led i h l).at) × (up n (row s.rows (first.sound.led i h l).at).off ≡ header_at)
          → (n : ℕ) × (n < i) × (up n (row s.rows i).off ≡ header_at)
      more i h l p =
          let d = first.sound.led i h l in
          (suc p.0, omega (arith, p.1, d.below), ap (up p.0) (from_is i l ∙ sym d.offset) ∙ p.2)

  path_is : (i : ℕ) → 1 ≤ i → i < length s.rows → path y (row s.rows i).off ≡ path_up (length y.blocks) y.blocks (row s.rows i).off
  unfolding path
  path_is i l h = rw (ne_eqb (row s.rows i).off 0 (not_id i l h), listed_is (row s.rows i).off, elem_row s.rows i no_row h)

  count_is : length y.blocks ≡ length s.rows
  count_is = rw blocks_are (sort_length s.rows)

  path_first : path y header_at ≡ header_at ∷ []
  unfolding path_up up
  path_first =
      rw row_1 at (path_is 1 (omega arith) (omega (arith, two)))
      ∙ enough 0 (length y.blocks) 1 header_at refl (omega arith) (omega arith)

  path_last : (m a : ℕ) → (a ≡ header_at → ⊥) → path_up (suc m) y.blocks a ≡ path_up m y.blocks (from_block_at y.blocks a) ++ a ∷ []
  unfolding path_up
  path_last m a g = rw (ne_eqb a header_at g)

  module _ (i : ℕ) (h : 2 ≤ i) (l : i < length s.rows) where
    abbrev by_at : ℕ
    by_at = (first.sound.led i h l).at

    -- both paths with as many links as one less than there are blocks
    path_next : path y (row s.rows i).off ≡ path y (row s.rows by_at).off ++ (row s.rows i).off ∷ []
    path_next =
        let d = first.sound.led i h l in
        let j : d.at < length s.rows = omega (arith, d.below) in
        let m = length s.rows - 1 in
        let c : length y.blocks ≡ suc m = count_is ∙ omega arith in
        let n = reach d.at d.some j in
        let f : from_block_at y.blocks (row s.rows i).off ≡ (row s.rows d.at).off = from_is i l ∙ sym d.offset in
        let g : path_up (suc m) y.blocks (row s.rows i).off ≡ path_up m y.blocks (row s.rows d.at).off ++ (row s.rows i).off ∷ [] =
        path_last m (row s.rows i).off (not_header i h l) ∙ ap (λ (b : ℕ). path_up m y.blocks b ++ (row s.rows i).off ∷ []) f in
        rw (path_is i (omega arith) l, path_is d.at d.some j, c)
        (g ∙ ap (λ (t : List ℕ). t ++ (row s.rows i).off ∷ []) (enough n.0 m (suc m) (row s.rows d.at).off n.2 (omega (arith, n.1, d.below)) (omega (arith, n.1, d.below))))

  -- the path to the i-th row of the walk has i words at the most
  leads : (i : ℕ) → 1 ≤ i → i < length s.rows → Leads os (path y (row s.rows i).off) (row s.rows i).off × (length (path y (row s.rows i).off) ≤ i)
  leads i l g = upward (λ i. Leads os (path y (row s.rows i).off) (row s.rows i).off × (length (path y (row s.rows i).off) ≤ i)) one more i i (omega arith) l g
    where
      one : Leads os (path y (row s.rows 1).off) (row s.rows 1).off × (length (path y (row s.rows 1).off) ≤ 1)
      one = rw (row_1, path_first) (
        record { some = omega arith; most = omega (arith, two, size); first = refl; last = refl; step = λ k h. absurd (omega arith) },
        omega arith,
      )

      more : (i : ℕ) (h : 2 ≤ i) (l : i < length s.rows)
          → Leads os (path y (row s.rows (first.sound.led i h l).at).off) (row s.rows (first.sound.led i h l).at).off
          × (length (path y (row s.rows (first.sound.led i h l).at).off) ≤ (first.sound.led i h l).at)
          → Leads os (path y (row s.rows i).off) (row s.rows i).off × (length (path y (row s.rows i).off) ≤ i)
      more i h l q =
          let d = first.sound.led i h l in
          let p = place_in i l in
          rw (path_next i h l) (
            longer os (path y (row s.rows d.at).off) (row s.rows i).off (row s.rows d.at).off p.0 q.0 (omega (arith, q.1, d.below, size)) (omega (arith, p.1, length-map y.blocks origin))
                (origin_off y.blocks p.0 ∙ ap (λ (w : Row). w.off) p.2) (origin_from y.blocks p.0 ∙ ap (λ (w : Row). w.from_block) p.2 ∙ sym d.offset),
            omega (arith, q.1, d.below, length-append (path y (row s.rows d.at).off) ((row s.rows i).off ∷ [])),
          )

  path_listed : (p a : ℕ) → p < length os → (origin_at os p).off ≡ a → (a ≡ 0 → ⊥) → Leads os (path y a) a
  path_listed p a h e d =
      let i = place_of p h in
      let u : (row s.rows i.0).off ≡ a = ap (λ (w : Row). w.off) i.2 ∙ sym (origin_off y.blocks p) ∙ e in
      rw (← u) (leads i.0 (not_first i.0 u) i.1).0
    where
      not_first : (i : ℕ) → (row s.rows i).off ≡ a → 1 ≤ i
      not_first zero u = absurd (d (sym u ∙ row_0))
      not_first (suc i) u = omega arith

-- of an accepted recording
module _ (lim : Limits) (lent : ℕ) (r : List ℕ) (y : Layout) (e : layout lim lent r ≡ ok y) where
  blocks_are : y.blocks ≡ sort (walked lim lent r y e).0.rows
  unfolding layout_of
  blocks_are = ap (λ (z : Layout). z.blocks) (walked lim lent r y e).2

  links_are : y.state.links ≡ (walked lim lent r y e).0.links
  unfolding layout_of
  links_are = ap (λ (z : Layout). z.state.links) (walked lim lent r y e).2

  first_rows : Begun r (walked lim lent r y e).0
  first_rows = begun lim r (walked lim lent r y e).0 (walked lim lent r y e).1

  pub layout_followed : Followed (map origin y.blocks) (map (λ (l : Link). l.target) y.state.links)
  layout_followed = followed r (walked lim lent r y e).0 first_rows (inv lim lent r y e) y blocks_are links_are

  pub path_leads : (p a : ℕ) → p < length (map origin y.blocks) → (origin_at (map origin y.blocks) p).off ≡ a → (a ≡ 0 → ⊥) → Leads (map origin y.blocks) (path y a) a
  path_leads = path_listed r (walked lim lent r y e).0 first_rows (inv lim lent r y e) y blocks_are links_are

-- no path to the ID, and none to what no row has
pub path_none : (y : Layout) (a : ℕ) → (a ≡ 0) ⊎ ((i : ℕ) → i < length (map origin y.blocks) → (origin_at (map origin y.blocks) i).off ≡ a → ⊥) → path y a ≡ []
unfolding path is_listed elem origin
path_none y a (inl e) = rw (eq-eqb a 0 e)
path_none y a (inr h) = rw (elem_none y.blocks a no_row absent) (go (eqb a 0))
  where
    absent : (i : ℕ) → i < length y.blocks → (row y.blocks i).off ≡ a → ⊥
    absent i l e = h i (rw length-map l) (origin_off y.blocks i ∙ e)

    go : (b : Bool) → cond (b || true) [] (path_up (length y.blocks) y.blocks a) ≡ []
    go true = refl
    go false = refl
