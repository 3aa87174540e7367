-- What every accepted step of the walk does: it loses no read byte, keeps the state in order, and answers with any limits the same
-- on another recording that agrees on what it has read. The property goes through the combinators, so the walk has it by its shape.
use mathlib.Core.Path.{◌≡◌, refl, sym, ap, ◌∙◌}
use mathlib.Core.Bool.{cond, Bool, true, false, ◌||◌, or_assoc, or-false}
use mathlib.Core.List.{List, [], ◌∷◌, ◌++◌, map}
use Prim.Native.Nat.{ℕ, zero, suc, ◌+◌, ◌≤◌, ◌<◌}
use native.Mathlib.Omega.{arith}
use lib.Dec.{ltb, eqb}
use lib.ListN.{length, get_or, take, drop, length-append, length-drop}
use lib.Seq.{drop-append-le, take-append-le, drop-append_seam, take-length}
use borrow.Author.Tests.{ltb-true, eqb-true, eqb-false, ne_eqb, eq-eqb}
use Rattle.mdf4.specs.Bytes.{bytes, within, inside}
use Rattle.mdf4.specs.Act.{Refusal, Result, Stop, stopped, Out, ok, err, and_then, check, Kind, Row, Link, State, Limits, Act, choose, pure, stop, ◌>>=◌, ◌>>◌, sized, elem, marked, visit, once, seen, chain, raise, following, by_link, each_link}
use Rattle.mdf4.specs.Kinds.{RecordLayout, read_len, read_block, make_link, name_ok, shape}
use Rattle.mdf4.specs.Walk.{row_of, push, after_reading, list_block, enter}
use Rattle.mdf4.specs.Reads.{row_ranges, ranges_at, links_at, read_ranges}
use Rattle.mdf4.proofs.Bytes.{or_left, or_right, or_none}
use Rattle.mdf4.proofs.Results.{and_then_ok, check_ok, ok_both, never, Both, on, off, both_then, both_on}
use Rattle.mdf4.proofs.Reading.{row_links, row_links_snoc, Reads, Agree, within_in, old_reads, row_read, link_read, read_is, read_inside, read_whole, after_is, lending, after_lending, read_same, head_same, links_same, name_ok_same}
use Rattle.mdf4.proofs.Lists.{All, all_append}

-- lists of offsets

abbrev pub offs : List Row → List ℕ
offs = map (λ (w : Row). w.off)

abbrev pub Distinct : List ℕ → Type 0
Distinct [] = Unit {0}
Distinct (x ∷ xs) = (elem x xs ≡ false) × Distinct xs

-- no block ends before it begins, and none begins behind the recording's n bytes
abbrev pub Tidy : ℕ → List Row → Type 0
Tidy n [] = Unit {0}
Tidy n (w ∷ ws) = ((w.off ≤ w.end) × (w.off ≤ n)) × Tidy n ws

elem_snoc : (x a : ℕ) (xs : List ℕ) → elem x (xs ++ a ∷ []) ≡ (elem x xs || eqb x a)
unfolding elem
elem_snoc x a [] = or-false (eqb x a)
elem_snoc x a (y ∷ ys) = rw (elem_snoc x a ys) (sym (or_assoc (eqb x y) (elem x ys) (eqb x a)))

eqb_flip : (x a : ℕ) → eqb a x ≡ false → eqb x a ≡ false
eqb_flip x a e = ne_eqb x a (λ p. eqb-false a x e (sym p))

distinct_snoc : (a : ℕ) (xs : List ℕ) → Distinct xs → elem a xs ≡ false → Distinct (xs ++ a ∷ [])
unfolding elem
distinct_snoc a [] d e = (refl, tt)
distinct_snoc a (x ∷ xs) d e = (
  elem_snoc x a xs ∙ (rw d.0 (eqb_flip x a (or_none (eqb a x) (elem a xs) e).0)),
  distinct_snoc a xs d.1 (or_none (eqb a x) (elem a xs) e).1,
)

tidy_snoc : (n : ℕ) (w : Row) (ws : List Row) → Tidy n ws → w.off ≤ w.end → w.off ≤ n → Tidy n (ws ++ w ∷ [])
tidy_snoc n w [] t e f = ((e, f), tt)
tidy_snoc n w (v ∷ ws) t e f = (t.0, tidy_snoc n w ws t.1 e f)

offs_snoc : (ws : List Row) (w : Row) → offs (ws ++ w ∷ []) ≡ offs ws ++ w.off ∷ []
offs_snoc [] w = refl
offs_snoc (v ∷ ws) w = rw (offs_snoc ws w)

-- a row's words `first` and `count` say where its links stand in the link table
abbrev pub Placed : List ℕ → List Link → List Row → Type 0
Placed r ls [] = Unit {0}
Placed r ls (w ∷ ws) = ((w.first_link + w.link_count ≤ length ls) × (take w.link_count (drop w.first_link ls) ≡ links_at r w.kind w.off)) × Placed r ls ws

placed_grow : (r : List ℕ) (ls new : List Link) (ws : List Row) → Placed r ls ws → Placed r (ls ++ new) ws
placed_grow r ls new [] p = tt
placed_grow r ls new (w ∷ ws) p =
    let l : w.first_link + w.link_count ≤ length ls = p.0.0 in (
      (
        rw length-append (omega arith),
        rw (drop-append-le w.first_link ls new (omega arith), take-append-le w.link_count (drop w.first_link ls) new (rw length-drop (omega arith))) p.0.1,
      ),
      placed_grow r ls new ws p.1,
    )

-- the links of a new row stand at the end of the table; without links its first is 0
seam_fits : (ls new : List Link) → cond (eqb (length new) 0) 0 (length ls) + length new ≤ length (ls ++ new)
seam_fits ls [] = rw length-append (omega arith)
seam_fits ls (l ∷ new) = rw (ne_eqb (length (l ∷ new)) 0 (λ z. omega arith), length-append) (omega arith)

seam_is : (ls new : List Link) → take (length new) (drop (cond (eqb (length new) 0) 0 (length ls)) (ls ++ new)) ≡ new
seam_is ls [] = refl
seam_is ls (l ∷ new) = rw (ne_eqb (length (l ∷ new)) 0 (λ z. omega arith), drop-append_seam) (take-length (l ∷ new))

placed_snoc : (r : List ℕ) (ls : List Link) (ws : List Row) (w : Row) → Placed r ls ws
    → w.first_link + w.link_count ≤ length ls → take w.link_count (drop w.first_link ls) ≡ links_at r w.kind w.off → Placed r ls (ws ++ w ∷ [])
placed_snoc r ls [] w p l e = ((l, e), tt)
placed_snoc r ls (v ∷ ws) w p l e = (p.0, placed_snoc r ls ws w p.1 l e)

-- a listed block can be read again: its own bytes are there
abbrev pub Readable : List ℕ → Row → Type 0
Readable r w = read_block w.kind r w.off ≡ ok (bytes r w.off (read_len w.kind r w.off))

-- the state in order: each listed offset was visited, and is listed once; its links stand in the link table
pub record Inv (r : List ℕ) (s : State) : Type 0 where
  pub known : (x : ℕ) → elem x (offs s.rows) ≡ true → elem x s.visited ≡ true
  pub apart : Distinct (offs s.rows)
  pub tidy : Tidy (length r) s.rows
  pub table : s.links ≡ row_links r s.rows
  pub placed : Placed r s.links s.rows
  pub readable : All (Readable r) s.rows

-- an offset just marked and not yet listed
pub record Ready (a : ℕ) (s : State) : Type 0 where
  pub seen : elem a s.visited ≡ true
  pub fresh : elem a (offs s.rows) ≡ false

abbrev pub Any : State → Type 0
Any s = Unit {0}

pub record Went {A : Type 0} (P : State → Type 0) (m : Act A) (r : List ℕ) (s : State) (x : A) (s' : State) : Type 0 where
  pub grows : (i : ℕ) → Reads r s i → Reads r s' i
  pub keeps : P s → Inv r s → Inv r s'
  pub longer : length s.visited ≤ length s'.visited
  pub fits : length s.visited ≤ s.lent.visited → length s'.visited ≤ s.lent.visited
  pub kept : s'.lent ≡ s.lent
  pub listed : (x : ℕ) → elem x (offs s.rows) ≡ true → elem x (offs s'.rows) ≡ true
  pub other : (r' : List ℕ) (lim : Limits) → Agree r r' s' → Both (m r (lending lim s)) (m r' (lending lim s)) (x, lending lim s')

pub record Good {A : Type 0} (P : State → Type 0) (m : Act A) : Type 0 where
  pub went : (r : List ℕ) (s : State) (x : A) (s' : State) → m r s ≡ ok (x, s') → Went P m r s x s'

pub earlier : {A : Type 0} {m : Act A} {P : State → Type 0} {r r' : List ℕ} {s s' : State} {x : A} → Went P m r s x s' → Agree r r' s' → Agree r r' s
earlier w g = record { size = g.size; at = λ i l h. g.at i l (w.grows i h) }

-- the same limits again
pub again : {A : Type 0} {P : State → Type 0} (m : Act A) (r : List ℕ) (s : State) (x : A) (s' : State) → Went P m r s x s' → m r s ≡ ok (x, s')
    → (r' : List ℕ) → Agree r r' s' → m r' s ≡ ok (x, s')
unfolding lending
again m r s x s' w e r' c =
    let z : lending s.lent s' ≡ s' = rw (← w.kept) in
    (both_on (w.other r' s.lent c) (x, s') e).1 ∙ ap (λ t. ok (x, t)) z

pub good_pure : {A : Type 0} (a : A) → Good Any (pure a)
unfolding pure
good_pure a = record {
  went = λ r s x s' e.
      let q = ok_both a x s s' e in
      record { grows = λ i h. rw q.1 at h; keeps = λ p i. rw q.1 at i; longer = rw q.1 (omega arith); fits = λ h. rw (← q.1) h; kept = rw (← q.1); listed = λ x h. rw (← q.1) h; other = λ r' lim g. let p : ◌≡◌ {A = Result Stop (_ × State)} (ok (a, lending lim s)) (ok (x, lending lim s')) = (λ i. ok (q.0 i, lending lim (q.1 i))) in on p p };
}

pub good_stop : {A : Type 0} (P : State → Type 0) (k : Kind) (a : ℕ) (e : Refusal) → Good {A = A} P (stop k a e)
unfolding stop
good_stop P k a e = record { went = λ r s x s' q. never (sym q) }

pub good_bind : {A B : Type 0} (P : State → Type 0) (m : Act A) (f : A → Act B) → Good P m → ((a : A) → Good Any (f a)) → Good P (m >>= f)
unfolding ◌>>=◌ and_then
good_bind P m f g k = record {
  went = λ r s x s' e.
      let q = and_then_ok (m r s) (λ p. f p.0 r p.1) (x, s') e in
      let w = g.went r s q.0.0 q.0.1 q.1 in
      let v = (k q.0.0).went r q.0.1 x s' q.2 in
      record {
        grows = λ i h. v.grows i (w.grows i h);
        keeps = λ p i. v.keeps tt (w.keeps p i);
        longer = omega (arith, w.longer, v.longer);
        fits = λ h. rw w.kept at (v.fits (rw w.kept (w.fits h)));
        kept = v.kept ∙ w.kept;
        listed = λ x h. v.listed x (w.listed x h);
        other = λ r' lim a. both_then _ _ (w.other r' lim (earlier v a)) (v.other r' lim a);
      };
}

pub good_then : {A B : Type 0} (P : State → Type 0) (m : Act A) (n : Act B) → Good P m → Good Any n → Good P (m >> n)
unfolding ◌>>=◌ ◌>>◌
good_then P m n g k = good_bind P m (λ a. n) g (λ a. k)

pub good_choose : {A : Type 0} (P : State → Type 0) (b : Bool) (m n : Act A) → Good P m → Good P n → Good P (choose b m n)
unfolding choose
good_choose P true m n g k = g
good_choose P false m n g k = k

pub good_sized : {A : Type 0} (P : State → Type 0) (f : ℕ → Act A) → ((n : ℕ) → Good P (f n)) → Good P (sized f)
unfolding sized
good_sized P f g = record {
  went = λ r s x s' e.
      let w = (g (length r)).went r s x s' e in
      record { grows = w.grows; keeps = w.keeps; longer = w.longer; fits = w.fits; kept = w.kept; listed = w.listed; other = λ r' lim a. rw (sym a.size) (w.other r' lim a) };
}

pub good_seen : {A : Type 0} (P : State → Type 0) (a : ℕ) (f : Bool → Act A) → ((b : Bool) → Good P (f b)) → Good P (seen a f)
unfolding seen lending
good_seen P a f g = record {
  went = λ r s x s' e.
      let w = (g (elem a s.visited)).went r s x s' e in
      record { grows = w.grows; keeps = w.keeps; longer = w.longer; fits = w.fits; kept = w.kept; listed = w.listed; other = w.other };
}

pub good_weaken : {A : Type 0} (P : State → Type 0) (m : Act A) → Good Any m → Good P m
good_weaken P m g = record {
  went = λ r s x s' e.
      let w = g.went r s x s' e in record { grows = w.grows; keeps = λ p i. w.keeps tt i; longer = w.longer; fits = w.fits; kept = w.kept; listed = w.listed; other = w.other };
}

pub good_chain : {B : Type 0} (n : ℕ) (f : ℕ → B → Act (ℕ × B)) → ((a : ℕ) (b : B) → Good Any (f a b)) → (a : ℕ) (b : B) → Good Any (chain n f a b)
unfolding chain
good_chain zero f g a b = good_choose Any (eqb a 0) _ _ (good_pure b) (good_bind Any _ _ (g a b) (λ p. good_pure p.1))
good_chain (suc n) f g a b = good_choose Any (eqb a 0) _ _ (good_pure b) (good_bind Any _ _ (g a b) (λ p. good_chain n f g p.0 p.1))

-- following a link
following_inv : (a n : ℕ) (r : List ℕ) (s : State) → Inv r s → Inv r (following a n s)
unfolding following
following_inv a n r s v = record { known = v.known; apart = v.apart; tidy = v.tidy; table = v.table; placed = v.placed; readable = v.readable }

following_reads : (a n : ℕ) (r : List ℕ) (s : State) → read_ranges r (following a n s) ≡ read_ranges r s
unfolding read_ranges following
following_reads a n r s = refl

pub good_by_link : {A : Type 0} (a n : ℕ) (m : Act A) → Good Any m → Good Any (by_link a n m)
unfolding by_link following lending
good_by_link a n m g = record {
  went = λ r s x s' e.
      let w = g.went r (following a n s) x s' e in
      record {
        grows = λ i h. w.grows i (rw following_reads h);
        keeps = λ p i. w.keeps tt (following_inv a n r s i);
        longer = w.longer;
        fits = w.fits;
        kept = w.kept;
        listed = w.listed;
        other = w.other;
      };
}

pub good_each_link : (a i : ℕ) (f : Link → Act (Unit {0})) → ((l : Link) → Good Any (f l)) → (ls : List Link) → Good Any (each_link a i f ls)
unfolding each_link
good_each_link a i f g [] = good_pure tt
good_each_link a i f g (l ∷ ls) = good_then Any (by_link a i (f l)) (each_link a (suc i) f ls) (good_by_link a i (f l) (g l)) (good_each_link a (suc i) f g ls)

-- marking an offset that was not visited
module _ (a : ℕ) (r : List ℕ) (s : State) (new : elem a s.visited ≡ false) where
  not_listed : Inv r s → (b : Bool) → elem a (offs s.rows) ≡ b → elem a (offs s.rows) ≡ false
  not_listed v true e = let h = v.known a e in let z : ◌≡◌ {A = ℕ} 0 1 = cc in absurd (omega arith)
  not_listed v false e = e

  marked_inv : Inv r s → Inv r (marked a s)
  unfolding marked
  marked_inv v = record {
    known = λ x h. elem_snoc x a s.visited ∙ or_left _ _ (v.known x h);
    apart = v.apart;
    tidy = v.tidy;
    table = v.table;
    placed = v.placed;
    readable = v.readable;
  }

  marked_ready : Inv r s → Ready a (marked a s)
  unfolding marked
  marked_ready v = record {
    seen = elem_snoc a a s.visited ∙ or_right (elem a s.visited) _ (eq-eqb a a refl);
    fresh = not_listed v (elem a (offs s.rows)) refl;
  }

marked_reads : (a : ℕ) (r : List ℕ) (s : State) → read_ranges r (marked a s) ≡ read_ranges r s
unfolding read_ranges marked
marked_reads a r s = refl

pub visit_is : (k : Kind) (a : ℕ) (r : List ℕ) (s : State) (p : Unit {0} × State) → visit k a r s ≡ ok p → p.1 ≡ marked a s
unfolding visit
visit_is k a r s p e = let q = (check_ok _ _ _ _ e).1 in (ok_both p.0 tt p.1 (marked a s) (sym q)).1

pub marked_length : (a : ℕ) (s : State) → length (marked a s).visited ≡ suc (length s.visited)
unfolding marked
marked_length a s = length-append s.visited (a ∷ []) ∙ omega arith

pub visit_room : (k : Kind) (a : ℕ) (r : List ℕ) (s : State) (p : Unit {0} × State) → visit k a r s ≡ ok p → length s.visited < s.lent.visited
unfolding visit
visit_room k a r s p e = ltb-true _ _ (check_ok _ _ _ _ e).0

visit_both : (k : Kind) (a : ℕ) (r r' : List ℕ) (lim : Limits) (s : State)
    → Both (visit k a r (lending lim s)) (visit k a r' (lending lim s)) (tt {0}, lending lim (marked a s))
unfolding visit and_then check lending marked
visit_both k a r r' lim s = go (ltb (length s.visited) lim.visited) _
  where
    go : (b : Bool) (z : Stop) {p : Unit {0} × State} → Both (and_then (check b z) (λ u. ok p)) (and_then (check b z) (λ u. ok p)) p
    go true z = on refl refl
    go false z = off z refl refl

pub lent_is : (a : ℕ) (s t : State) → t ≡ marked a s → t.lent ≡ s.lent
unfolding marked
lent_is a s t v = ap (λ (u : State). u.lent) v

once_at : {A : Type 0} (k : Kind) (a : ℕ) (x : A) (m : Act A) → Good (Ready a) m → (r : List ℕ) (s : State) (y : A) (s' : State)
    → once k a x m r s ≡ ok (y, s') → Went Any (once k a x m) r s y s'
unfolding once ◌>>◌ and_then choose lending
once_at {A = A} k a x m g r s y s' e = go (elem a s.visited) refl
  where
    go : (b : Bool) → elem a s.visited ≡ b → Went Any (once k a x m) r s y s'
    go true q =
        let w = (good_pure x).went r s y s' (rw q at e) in
        record { grows = w.grows; keeps = w.keeps; longer = w.longer; fits = w.fits; kept = w.kept; listed = w.listed; other = λ r' lim c. rw q (w.other r' lim c) }
    go false q =
        let p = and_then_ok (visit k a r s) (λ p. m r p.1) (y, s') (rw q at e) in
        let v = visit_is k a r s p.0 p.1 in
        let w = g.went r p.0.1 y s' p.2 in
        record {
          grows = λ i h. w.grows i (rw (v, marked_reads) h);
          keeps = λ u i. w.keeps (rw v (marked_ready a r s q i)) (rw v (marked_inv a r s q i));
          longer = omega (arith, w.longer, marked_length a s, ap (λ (t : State). length t.visited) v);
          fits = λ h. rw (lent_is a s p.0.1 v) at (w.fits (rw (lent_is a s p.0.1 v) (omega (arith, visit_room k a r s p.0 p.1, marked_length a s, ap (λ (t : State). length t.visited) v))));
          kept = w.kept ∙ lent_is a s p.0.1 v;
          listed = λ x h. w.listed x (rw v (unfold marked in h));
          other = λ r' lim c. rw q (both_then _ _ (visit_both k a r r' lim s) (rw v at (w.other r' lim c)));
        }

pub good_once : {A : Type 0} (k : Kind) (a : ℕ) (x : A) (m : Act A) → Good (Ready a) m → Good Any (once k a x m)
good_once k a x m g = record { went = λ r s y s' e. once_at k a x m g r s y s' e }

-- the state after a block's row
module _ (k : Kind) (a : ℕ) (h : RecordLayout) (s : State) (o : List ℕ) (ls : List Link) where
  pushed : State
  pushed = push k (row_of k a h s o ls) ls s

  pushed_inv : (r : List ℕ) → ls ≡ links_at r k a → a ≤ length r → read_block k r a ≡ ok (bytes r a (read_len k r a)) → Ready a s → Inv r s → Inv r pushed
  unfolding pushed push row_of
  pushed_inv r z i j d v = record {
    known = λ x q. known_at x (elem x (offs s.rows)) refl (sym (elem_snoc x a (offs s.rows)) ∙ ap (elem x) (sym (offs_snoc s.rows _)) ∙ q);
    apart = rw offs_snoc (distinct_snoc a (offs s.rows) v.apart d.fresh);
    tidy = tidy_snoc (length r) _ s.rows v.tidy (omega arith) i;
    table = rw (row_links_snoc, ← v.table, z);
    placed = placed_snoc r (s.links ++ ls) s.rows _ (placed_grow r s.links ls s.rows v.placed) (seam_fits s.links ls) (seam_is s.links ls ∙ z);
    readable = all_append (Readable r) s.rows _ v.readable (j, tt);
  }
    where
      known_at : (x : ℕ) (b : Bool) → elem x (offs s.rows) ≡ b → (elem x (offs s.rows) || eqb x a) ≡ true → elem x s.visited ≡ true
      known_at x true q u = v.known x q
      known_at x false q u = let z : x ≡ a = eqb-true x a (rw q at u) in rw z d.seen

raise_ok : {A : Type 0} (k : Kind) (a : ℕ) (s : State) (m : Out A) (x : A) → raise k a s m ≡ ok x → m ≡ ok x
unfolding raise
raise_ok k a s (ok y) x e = cc
raise_ok k a s (err y) x e = never (sym e)

both_raise : {A : Type 0} (k : Kind) (a : ℕ) (s : State) {o o' : Out A} {x : A} → Both o o' x → Both (raise k a s o) (raise k a s o') x
unfolding raise
both_raise k a s (on p q) = on (rw p) (rw q)
both_raise k a s (off z p q) = off (stopped z s k a) (rw p) (rw q)

-- entering a block
module _ (k : Kind) (a : ℕ) (h : RecordLayout) (r : List ℕ) (s : State) where
  -- the bytes and links that an accepted block has
  block_bytes : List ℕ
  block_bytes = bytes r a (read_len k r a)

  own_links : List Link
  own_links = map (make_link r) ((shape k).targets block_bytes)

  module _ (r' : List ℕ) (g : Agree r r' (pushed k a h s block_bytes own_links)) where
    agree_row : (i : ℕ) → i < length r → inside i (row_ranges r (row_of k a h s block_bytes own_links)) ≡ true → get_or r i 0 ≡ get_or r' i 0
    unfolding pushed
    agree_row i l q = g.at i l (row_read r k (row_of k a h s block_bytes own_links) own_links s i q)

    own_again : read_block k r a ≡ read_block k r' a
    unfolding ranges_at row_of
    own_again = read_same r r' g.size k a (λ i l m u. agree_row i l (within_in i a (read_len k r a) m u _))

    head_again : bytes r a 24 ≡ bytes r' a 24
    unfolding ranges_at row_of
    head_again = head_same r r' g.size k a (λ i l m u. agree_row i l (within_in i a (read_len k r a) m u _))

    links_again : own_links ≡ map (make_link r') ((shape k).targets block_bytes)
    unfolding own_links pushed
    links_again = links_same r r' g.size ((shape k).targets block_bytes)
        (λ i l q. g.at i l (link_read r k (row_of k a h s block_bytes own_links) own_links s i q))

    named_again : name_ok k r own_links ≡ name_ok k r' own_links
    unfolding ranges_at links_at row_of inside own_links block_bytes
    named_again = name_ok_same r r' g.size k own_links (λ i l q. agree_row i l (or_right (within i (a, a + read_len k r a)) _ q))

  module _ (x : List ℕ × List Link) (s' : State) (e : enter k a h r s ≡ ok (x, s')) where
    entered : (o : List ℕ) × (read_block k r a ≡ ok o) × (after_reading k a h s o (map (make_link r) ((shape k).targets o)) (name_ok k r (map (make_link r) ((shape k).targets o))) ≡ ok (x, s'))
    unfolding enter list_block
    entered = and_then_ok (read_block k r a) _ (x, s') (raise_ok k a s (list_block k a h r s) (x, s') e)

    its_own : read_block k r a ≡ ok block_bytes
    unfolding block_bytes
    its_own = rw (← read_is k r a entered.0 entered.1) entered.1

    its_after : after_reading k a h s block_bytes own_links (name_ok k r own_links) ≡ ok (x, s')
    unfolding block_bytes own_links
    its_after = rw (read_is k r a entered.0 entered.1) at entered.2

    its_state : s' ≡ pushed k a h s block_bytes own_links
    unfolding pushed
    its_state = (after_is k a h s block_bytes own_links (name_ok k r own_links) x s' its_after).1

    enter_other : (r' : List ℕ) (lim : Limits) → Agree r r' s' → Both (enter k a h r (lending lim s)) (enter k a h r' (lending lim s)) (x, lending lim s')
    unfolding enter list_block and_then own_links
    enter_other r' lim c =
        let g : Agree r r' (pushed k a h s block_bytes own_links) = rw its_state at c in
        rw (← own_again r' g, its_own, ← links_again r' g, ← named_again r' g)
        (both_raise k a (lending lim s) (after_lending lim k a h s block_bytes own_links (name_ok k r own_links) x s' its_after))

    good_enter_at : Went (Ready a) (enter k a h) r s x s'
    good_enter_at = record {
      grows = λ i q. rw its_state (unfold pushed in old_reads r k (row_of k a h s block_bytes own_links) own_links s i q);
      keeps = λ d v. rw its_state (pushed_inv k a h s block_bytes own_links r (unfold own_links block_bytes links_at in refl) (read_inside k r a block_bytes its_own) (unfold block_bytes in its_own) d v);
      longer = rw its_state (unfold pushed push in (omega arith));
      fits = λ q. rw its_state (unfold pushed push in q);
      kept = rw its_state (unfold pushed push in refl);
      listed = λ x q. rw its_state (unfold pushed push in (rw (offs_snoc, elem_snoc) (or_left _ _ q)));
      other = enter_other;
    }

-- an entered block answers its links, and its row is pushed
pub entered_row : (k : Kind) (a : ℕ) (h : RecordLayout) (r : List ℕ) (s : State) (x : List ℕ × List Link) (s' : State) → enter k a h r s ≡ ok (x, s')
    → (o : List ℕ) × (x.1 ≡ links_at r k a) × (s' ≡ push k (row_of k a h s o x.1) x.1 s)
unfolding own_links block_bytes links_at
entered_row k a h r s x s' e =
    let q = after_is k a h s (block_bytes k a h r s) (own_links k a h r s) _ x s' (its_after k a h r s x s' e) in
    let l : x.1 ≡ own_links k a h r s = ap (λ (p : List ℕ × List Link). p.1) q.0 in
    (block_bytes k a h r s, l, rw l q.1)

-- an entered block is listed
pub enter_listed : (k : Kind) (a : ℕ) (h : RecordLayout) (r : List ℕ) (s : State) (x : List ℕ × List Link) (s' : State) → enter k a h r s ≡ ok (x, s') → elem a (offs s'.rows) ≡ true
unfolding pushed push row_of
enter_listed k a h r s x s' e =
    rw (its_state k a h r s x s' e, offs_snoc, elem_snoc) (or_right (elem a (offs s.rows)) _ (eq-eqb a a refl))

-- its own bytes lie inside the recording, and are among what was read
pub enter_whole : (k : Kind) (a : ℕ) (h : RecordLayout) (r : List ℕ) (s : State) (x : List ℕ × List Link) (s' : State) → enter k a h r s ≡ ok (x, s')
    → a + read_len k r a ≤ length r
enter_whole k a h r s x s' e = read_whole k r a (block_bytes k a h r s) (its_own k a h r s x s' e)

pub enter_reads : (k : Kind) (a : ℕ) (h : RecordLayout) (r : List ℕ) (s : State) (x : List ℕ × List Link) (s' : State) → enter k a h r s ≡ ok (x, s')
    → (i : ℕ) → a ≤ i → i < a + read_len k r a → Reads r s' i
unfolding pushed ranges_at row_of
enter_reads k a h r s x s' e i m u =
    rw (its_state k a h r s x s' e) (row_read r k (row_of k a h s (block_bytes k a h r s) (own_links k a h r s)) (own_links k a h r s) s i (within_in i a (read_len k r a) m u _))

pub good_enter : (k : Kind) (a : ℕ) (h : RecordLayout) → Good (Ready a) (enter k a h)
good_enter k a h = record { went = λ r s x s' e. good_enter_at k a h r s x s' e }

-- the header of an entered block is among what was read
pub enter_head : (k : Kind) (a : ℕ) (h : RecordLayout) (r r' : List ℕ) (s : State) (x : List ℕ × List Link) (s' : State)
    → enter k a h r s ≡ ok (x, s') → Agree r r' s' → bytes r a 24 ≡ bytes r' a 24
enter_head k a h r r' s x s' e c = head_again k a h r s r' (rw (its_state k a h r s x s' e) at c)
