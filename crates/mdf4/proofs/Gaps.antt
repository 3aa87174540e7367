-- Gaps: each byte of the recording that no extent holds lies in exactly one gap, and no other byte in any; their sizes add up.
use mathlib.Core.Path.{◌≡◌, refl, sym, ap, ◌∙◌}
use mathlib.Core.Bool.{cond, Bool, true, false, not, ◌||◌, ◌&&◌, and-false}
use mathlib.Core.List.{List, [], ◌∷◌, ◌++◌, map, append-nil}
use Prim.Native.Nat.{ℕ, zero, suc, ◌+◌, ◌-◌, ◌≤◌, ◌<◌, max, min}
use native.Mathlib.Omega.{arith}
use mathlib.Core.Logic.{◌⊎◌, inl, inr}
use lib.Dec.{leb, ltb, eqb}
use borrow.Author.Tests.{leb-true, ltb-true, ltb-false, lt-ltb, le-ltb, le-leb, lt-leb, ne_eqb, eq-eqb}
use Rattle.mdf4.specs.Bytes.{Range, within, inside, bit, count, tally}
use Rattle.mdf4.specs.Act.{Row, elem}
use Rattle.mdf4.specs.Layout.{extent, gap, compute_gaps}
use Rattle.mdf4.specs.Demand3.{sizes, Gap, offsets}
use Rattle.mdf4.proofs.Bytes.{or_left, or_right}
use Rattle.mdf4.proofs.Lists.{All, all_append, all_map}
use Rattle.mdf4.proofs.Good.{Tidy}
use Rattle.mdf4.proofs.Order.{Above, Rising}

-- ranges that begin one behind the other, the first not below lo, none of them ending before it begins
abbrev pub Ordered : ℕ → List Range → Type 0
Ordered lo [] = Unit {0}
Ordered lo (p ∷ ps) = (lo ≤ p.0) × (p.0 ≤ p.1) × Ordered p.0 ps

-- the extents of rows that rise are in order
ordered_rows : (n lo : ℕ) (ws : List Row) → Above lo ws → Rising ws → Tidy n ws → Ordered lo (map extent ws)
ordered_rows n lo [] a r t = tt
ordered_rows n lo (w ∷ ws) a r t = (omega arith, t.0.0, ordered_rows n w.off ws r.0 r.1 t.1)

ordered_from : (n : ℕ) (ws : List Row) → Rising ws → Tidy n ws → Ordered 0 (map extent ws)
ordered_from n [] r t = tt
ordered_from n (w ∷ ws) r t = (omega arith, t.0.0, ordered_rows n w.off ws r.0 r.1 t.1)

-- Each gap is one as document 01 has it

-- a gap that begins at the cursor or behind it, of the extents still to come
record Cut (len cursor : ℕ) (ps : List Range) (g : Range) : Type 0 where
  low : cursor ≤ g.0
  is : Gap len (offsets ps) g

none_below : (lo j : ℕ) (ps : List Range) → Ordered lo ps → j < lo → elem j (offsets ps) ≡ false
unfolding offsets elem
none_below lo j [] o l = refl
none_below lo j (p ∷ ps) o l = rw (ne_eqb j p.0 (λ e. omega arith)) (none_below p.0 j ps o.2 (omega arith))

cut_gap : (len cursor b : ℕ) (ps : List Range) → ((j : ℕ) → j < b → elem j (offsets ps) ≡ false) → (b ≡ len) ⊎ (elem b (offsets ps) ≡ true)
    → All (Cut len cursor ps) (gap cursor b)
unfolding gap
cut_gap len cursor b ps f e = go (ltb cursor b) refl
  where
    go : (t : Bool) → ltb cursor b ≡ t → All (Cut len cursor ps) (cond t ((cursor, b) ∷ []) [])
    go true q = (record { low = omega arith; is = record { some = ltb-true cursor b q; cut = λ j l h. f j h; ends = e } }, tt)
    go false q = tt

cut_later : (len cursor : ℕ) (p : Range) (ps : List Range) (g : Range) → p.0 ≤ p.1 → Cut len (max cursor p.1) ps g → Cut len cursor (p ∷ ps) g
unfolding offsets elem
cut_later len cursor p ps g o c =
    let l : max cursor p.1 ≤ g.0 = c.low in
    record {
      low = omega arith;
      is = record {
        some = c.is.some;
        cut = λ j h k. rw (ne_eqb j p.0 (λ e. omega arith)) (c.is.cut j h k);
        ends = elim c.is.ends [ inl e ↦ inl e | inr e ↦ inr (or_right (eqb g.1 p.0) _ e) ];
      };
    }

cuts : (len cursor lo : ℕ) (ps : List Range) → Ordered lo ps → All (Cut len cursor ps) (compute_gaps len cursor ps)
unfolding compute_gaps offsets elem
cuts len cursor lo [] o = cut_gap len cursor len [] (λ j h. refl) (inl refl)
cuts len cursor lo (p ∷ ps) o =
    all_append _ (gap cursor p.0) (compute_gaps len (max cursor p.1) ps)
    (cut_gap len cursor p.0 (p ∷ ps) (λ j h. rw (ne_eqb j p.0 (λ e. omega arith)) (none_below p.0 j ps o.2 h)) (inr (or_left _ _ (eq-eqb p.0 p.0 refl))))
    (all_map _ _ (λ g c. cut_later len cursor p ps g o.1 c) (compute_gaps len (max cursor p.1) ps) (cuts len (max cursor p.1) p.0 ps o.2))

pub all_gaps : (len : ℕ) (ws : List Row) → Rising ws → Tidy len ws → All (Gap len (offsets (map extent ws))) (compute_gaps len 0 (map extent ws))
all_gaps len ws r t = all_map _ _ (λ g c. c.is) (compute_gaps len 0 (map extent ws)) (cuts len 0 0 (map extent ws) (ordered_from len ws r t))

-- Each byte that no extent holds lies in exactly one gap, and no other byte in any

inside_below : (lo i : ℕ) (ps : List Range) → Ordered lo ps → i < lo → inside i ps ≡ false
unfolding inside within
inside_below lo i [] o l = refl
inside_below lo i (p ∷ ps) o l = rw (lt-leb p.0 i (omega arith)) (inside_below p.0 i ps o.2 (omega arith))

count_append : (i : ℕ) (ps qs : List Range) → count i (ps ++ qs) ≡ count i ps + count i qs
unfolding count
count_append i [] qs = omega arith
count_append i (p ∷ ps) qs = omega (arith, count_append i ps qs)

count_gap : (i a b : ℕ) → count i (gap a b) ≡ bit (leb a i && ltb i b)
unfolding gap count within bit
count_gap i a b = go (ltb a b) refl
  where
    go : (t : Bool) → ltb a b ≡ t → count i (cond t ((a, b) ∷ []) []) ≡ bit (leb a i && ltb i b)
    go true e = omega arith
    go false e = sym (ap bit (off_gap (leb a i) refl (ltb-false a b e)))
      where
        off_gap : (u : Bool) → leb a i ≡ u → b ≤ a → (leb a i && ltb i b) ≡ false
        off_gap true q h = rw (le-ltb i b (omega (arith, leb-true a i q))) (and-false (leb a i))
        off_gap false q h = rw q

-- one byte at one extent a .. b with the cursor at cur; q says whether a later extent holds the byte
cell : (cur a b i : ℕ) (q : Bool) → a ≤ b → (i < a → q ≡ false)
    → bit (leb cur i && ltb i a) + bit (leb (max cur b) i && not q) ≡ bit (leb cur i && not ((leb a i && ltb i b) || q))
unfolding bit
cell cur a b i q h f = go (ltb i cur) refl (ltb i a) refl (ltb i b) refl
  where
    go : (t : Bool) → ltb i cur ≡ t → (u : Bool) → ltb i a ≡ u → (v : Bool) → ltb i b ≡ v
        → bit (leb cur i && ltb i a) + bit (leb (max cur b) i && not q) ≡ bit (leb cur i && not ((leb a i && ltb i b) || q))
    go true e u e2 v e3 = let z = ltb-true i cur e in rw (lt-leb cur i z, lt-leb (max cur b) i (omega arith))
    go false e true e2 v e3 =
        let z = ltb-true i a e2 in
        rw (le-leb cur i (ltb-false i cur e), e2, lt-leb (max cur b) i (omega arith), lt-leb a i z, f z)
    go false e false e2 true e3 =
        let z = ltb-true i b e3 in
        rw (le-leb cur i (ltb-false i cur e), e2, lt-leb (max cur b) i (omega arith), le-leb a i (ltb-false i a e2), e3)
    go false e false e2 false e3 =
        let z1 = ltb-false i cur e in
        let z3 = ltb-false i b e3 in
        rw (le-leb cur i z1, e2, le-leb (max cur b) i (omega arith), le-leb a i (ltb-false i a e2), e3) (omega arith)

pub gaps_count : (len cur lo i : ℕ) (ps : List Range) → Ordered lo ps → i < len → count i (compute_gaps len cur ps) ≡ bit (leb cur i && not (inside i ps))
unfolding compute_gaps inside within
gaps_count len cur lo i [] o l = rw (count_gap i cur len, lt-ltb i len l)
gaps_count len cur lo i (p ∷ ps) o l =
    rw (count_append, count_gap, gaps_count len (max cur p.1) p.0 i ps o.2 l)
    (cell cur p.0 p.1 i (inside i ps) o.1 (inside_below p.0 i ps o.2))

-- a byte in n ranges of a list is in one of them exactly if n is not 0
pub gaps_of : (len i : ℕ) (ws : List Row) → Rising ws → Tidy len ws → i < len
    → count i (compute_gaps len 0 (map extent ws)) ≡ bit (not (inside i (map extent ws)))
gaps_of len i ws r t l = gaps_count len 0 0 i (map extent ws) (ordered_from len ws r t) l ∙ rw (le-leb 0 i (omega arith))

pub inside_count : (i : ℕ) (ps : List Range) → (b : Bool) → count i ps ≡ bit b → inside i ps ≡ b
unfolding count inside bit
inside_count i [] true e = let z : ◌≡◌ {A = ℕ} 0 1 = e in absurd (omega arith)
inside_count i [] false e = refl
inside_count i (p ∷ ps) b e = go (within i p) b e (λ (h : count i ps ≡ bit b). inside_count i ps b h)
  where
    go : (t b : Bool) → bit t + count i ps ≡ bit b → (count i ps ≡ bit b → inside i ps ≡ b) → (t || inside i ps) ≡ b
    go true true h f = refl
    go true false h f = absurd (omega arith)
    go false b h f = f (omega arith)

-- Gap sizes add up to the number of bytes that no extent holds

pub tally_ext : (f g : ℕ → ℕ) (n : ℕ) → ((i : ℕ) → i < n → f i ≡ g i) → tally f n ≡ tally g n
unfolding tally
tally_ext f g zero h = refl
tally_ext f g (suc n) h = rw (tally_ext f g n (λ i l. h i (omega arith)), h n (omega arith))

pub tally_add : (f g : ℕ → ℕ) (n : ℕ) → tally (λ i. f i + g i) n ≡ tally f n + tally g n
unfolding tally
tally_add f g zero = refl
tally_add f g (suc n) = rw (tally_add f g n) (omega arith)

pub tally_none : (n : ℕ) → tally (λ i. 0) n ≡ 0
unfolding tally
tally_none zero = refl
tally_none (suc n) = omega (arith, tally_none n)

tally_range : (a b n : ℕ) → tally (λ i. bit (within i (a, b))) n ≡ min b n - min a n
unfolding tally within bit
tally_range a b zero = omega arith
tally_range a b (suc n) = rw (tally_range a b n) (go (ltb n a) refl (ltb n b) refl)
  where
    go : (t : Bool) → ltb n a ≡ t → (u : Bool) → ltb n b ≡ u → (min b n - min a n) + bit (leb a n && ltb n b) ≡ min b (suc n) - min a (suc n)
    go true e u e2 = let z = ltb-true n a e in rw (lt-leb a n z) (omega arith)
    go false e true e2 = let z = ltb-false n a e in let y = ltb-true n b e2 in rw (le-leb a n z, e2) (omega arith)
    go false e false e2 = let z = ltb-false n a e in let y = ltb-false n b e2 in rw (le-leb a n z, e2) (omega arith)

-- none of the ranges ends behind n
abbrev pub Ends : ℕ → List Range → Type 0
Ends n [] = Unit {0}
Ends n (p ∷ ps) = (p.1 ≤ n) × Ends n ps

sizes_tally : (n : ℕ) (ps : List Range) → Ends n ps → sizes ps ≡ tally (λ i. count i ps) n
unfolding sizes count
sizes_tally n [] e = sym (tally_none n)
sizes_tally n (p ∷ ps) e = rw (tally_add (λ i. bit (within i p)) (λ i. count i ps) n, tally_range p.0 p.1 n, sizes_tally n ps e.1) (omega arith)

gap_ends : (n a b : ℕ) (ps : List Range) → b ≤ n → Ends n ps → Ends n (gap a b ++ ps)
unfolding gap
gap_ends n a b ps l e = go (ltb a b)
  where
    go : (t : Bool) → Ends n (cond t ((a, b) ∷ []) [] ++ ps)
    go true = (l, e)
    go false = e

gaps_end : (len cur : ℕ) (ws : List Row) → Tidy len ws → Ends len (compute_gaps len cur (map extent ws))
unfolding compute_gaps
gaps_end len cur [] t = rw append-nil at (gap_ends len cur len [] (omega arith) tt)
gaps_end len cur (w ∷ ws) t = gap_ends len cur w.off _ t.0.1 (gaps_end len (max cur w.end) ws t.1)

ends_behind : (n i : ℕ) (ps : List Range) → Ends n ps → n ≤ i → inside i ps ≡ false
unfolding inside within
ends_behind n i [] e l = refl
ends_behind n i (p ∷ ps) e l = rw (le-ltb i p.1 (omega arith), and-false) (ends_behind n i ps e.1 l)

pub gaps_behind : (len i : ℕ) (ws : List Row) → Tidy len ws → len ≤ i → inside i (compute_gaps len 0 (map extent ws)) ≡ false
gaps_behind len i ws t l = ends_behind len i (compute_gaps len 0 (map extent ws)) (gaps_end len 0 ws t) l

pub gap_sizes : (len : ℕ) (ws : List Row) → Rising ws → Tidy len ws
    → sizes (compute_gaps len 0 (map extent ws)) ≡ tally (λ i. bit (not (inside i (map extent ws)))) len
gap_sizes len ws r t =
    sizes_tally len (compute_gaps len 0 (map extent ws)) (gaps_end len 0 ws t)
    ∙ tally_ext (λ i. count i (compute_gaps len 0 (map extent ws))) (λ i. bit (not (inside i (map extent ws)))) len (λ i l. gaps_of len i ws r t l)
