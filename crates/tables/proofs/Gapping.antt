-- Ranges pushed on a table, and the sweep over rows that finds the gaps. Assumes nothing.
use mathlib.Core.Path.{◌≡◌, refl, sym, ap, ◌∙◌}
use mathlib.Core.Bool.{Bool, true, false, cond}
use mathlib.Core.List.{List, [], ◌∷◌, ◌++◌, map}
use Prim.Native.Nat.{ℕ, suc, ◌+◌, ◌-◌, ◌*◌, ◌/◌, ◌≤◌, ◌<◌, max}
use native.Mathlib.Omega.{arith}
use lib.Dec.{ltb}
use lib.ListN.{length, get_or, drop, set, length-set, length-append, length-drop}
use lib.Seq.{sets, sets-eq, drop-drop}
use borrow.Author.Tests.{lt-ltb, le-ltb}
use Rattle.mdf4.specs.Bytes.{Range, concat_map}
use Rattle.mdf4.specs.Layout.{gap, compute_gaps}
use Rattle.mdf4.specs.Answers.{range_words}
use Rattle.tables.specs.declared.RangeTable.{RangeTable}
use Rattle.tables.specs.Gaps.{Page, page, push, pushes, Pushed, Pushes, LastOf, Listed, range_of}

-- one row

pub push_fits : (t : List ℕ) (c a b : ℕ) → c < length t / 2 → Pushed t c ((a, b) ∷ []) (set (set t (c * 2) a) (c * 2 + 1) b) (c + 1)
unfolding push pushes
push_fits t c a b h = record { is = rw (lt-ltb c (length t / 2) h) }

pub push_full : (t : List ℕ) (c a b : ℕ) → length t / 2 ≤ c → Pushed t c ((a, b) ∷ []) t (c + 1)
unfolding push pushes
push_full t c a b h = record { is = rw (le-ltb c (length t / 2) h) }

-- the sweep over rows, whose ranges are ps

gap_some : (a b : ℕ) → a < b → gap a b ≡ (a, b) ∷ []
unfolding gap
gap_some a b h = rw (lt-ltb a b h)

gap_none : (a b : ℕ) → b ≤ a → gap a b ≡ []
unfolding gap
gap_none a b h = rw (le-ltb a b h)

-- what is left at a row, behind it, and behind all rows
module _ (len from : ℕ) where
  module _ {rows : List (List ℕ)} {row : List ℕ} {behind : List (List ℕ)} {next : ℕ} (e : rows ≡ row ∷ behind) (m : next ≡ max from (get_or row 1 0)) where
    pub gaps_found : from < get_or row 0 0
        → compute_gaps len from (map range_of rows) ≡ (from, get_or row 0 0) ∷ compute_gaps len next (map range_of behind)
    unfolding compute_gaps
    gaps_found h = rw (e, m, gap_some from (get_or row 0 0) h)

    pub gaps_passed : get_or row 0 0 ≤ from → compute_gaps len next (map range_of behind) ≡ compute_gaps len from (map range_of rows)
    unfolding compute_gaps
    gaps_passed h = rw (e, m, gap_none from (get_or row 0 0) h)

  pub gaps_none : (rows : List (List ℕ)) → length rows ≡ 0 → len ≤ from → compute_gaps len from (map range_of rows) ≡ []
  unfolding compute_gaps
  gaps_none [] e h = gap_none from len h
  gaps_none (row ∷ rows) e h = absurd (omega arith)

  pub gaps_last : (rows : List (List ℕ)) → length rows ≡ 0 → from < len
      → compute_gaps len from (map range_of rows) ≡ (from, len) ∷ compute_gaps len len (map range_of rows)
  unfolding compute_gaps
  gaps_last [] e h = rw (gap_some from len h, gap_none len len (omega arith))
  gaps_last (row ∷ rows) e h = absurd (omega arith)

-- the rows that a sweep has before it are the last ones of all: at its start, behind a row, and later
pub last_all : (all : List (List ℕ)) → LastOf all all
last_all all = let z : length all - length all ≡ 0 = omega arith in record { are = rw z }

pub last_then : {all rows behind : List (List ℕ)} → LastOf all rows → LastOf rows behind → LastOf all behind
last_then {all} {rows} {behind} p q =
    let n : length rows ≡ length all - (length all - length rows) = ap length p.are ∙ length-drop _ all in
    let m : length behind ≡ length rows - (length rows - length behind) = ap length q.are ∙ length-drop _ rows in
    let k : length all - length rows + (length rows - length behind) ≡ length all - length behind = omega arith in
    record { are = q.are ∙ ap (drop (length rows - length behind)) p.are ∙ rw (drop-drop, k) }

pub last_behind : {all rows : List (List ℕ)} {row : List ℕ} {behind : List (List ℕ)} → LastOf all rows → rows ≡ row ∷ behind → LastOf all behind
last_behind {rows = rows} {behind = behind} p e =
    let k : length rows - length behind ≡ 1 = omega (arith, ap length e) in
    last_then p (record { are = rw k (sym (ap (drop 1) e)) })

-- n rows leave n + 1 gaps at most
gap_most : (a b : ℕ) → length (gap a b) ≤ 1
unfolding gap
gap_most a b = go (ltb a b)
  where
    go : (h : Bool) → length {A = Range} (cond h ((a, b) ∷ []) []) ≤ 1
    go true = omega arith
    go false = omega arith

pub gaps_most : (len cursor : ℕ) (ps : List Range) → length (compute_gaps len cursor ps) ≤ length ps + 1
unfolding compute_gaps
gaps_most len cursor [] = omega (arith, gap_most cursor len)
gaps_most len cursor (p ∷ ps) = rw length-append (omega (arith, gap_most cursor p.0, gaps_most len (max cursor p.1) ps))

-- all that is pushed

pushes_append : (q : Page) (ps qs : List Range) → pushes q (ps ++ qs) ≡ pushes (pushes q ps) qs
unfolding pushes
pushes_append q [] qs = refl
pushes_append q (p ∷ ps) qs = pushes_append (push q p) ps qs

-- nothing is pushed; some ranges after the others
pub pushed_none : (t : List ℕ) (c : ℕ) → Pushed t c [] t c
unfolding pushes
pushed_none t c = record { is = refl }

pub pushed_then : {t : List ℕ} {c : ℕ} {ps : List Range} {t' : List ℕ} {c' : ℕ} {qs : List Range} {t'' : List ℕ} {c'' : ℕ}
    → Pushed t c ps t' c' → Pushed t' c' qs t'' c'' → Pushed t c (ps ++ qs) t'' c''
pushed_then {t} {c} {ps} {qs = qs} p q = record { is = rw (pushes_append (page t c) ps qs) (q.is ∙ rw p.is) }

-- nothing is pushed on a table of the code; some ranges after the others
pub pushes_none : (q : RangeTable) → Pushes q [] q
pushes_none q = record { same_reference = refl; pushed = pushed_none q.words.now q.count }

pub pushes_then : {p q r : RangeTable} {ps qs : List Range} → Pushes p ps q → Pushes q qs r → Pushes p (ps ++ qs) r
pushes_then a b = record { same_reference = b.same_reference ∙ a.same_reference; pushed = pushed_then a.pushed b.pushed }

-- what is pushed is held, where it fits

pushes_fit : (ps : List Range) (t : List ℕ) (c : ℕ) → c + length ps ≤ length t / 2
    → pushes (page t c) ps ≡ page (sets t (c * 2) (concat_map range_words ps)) (c + length ps)
unfolding pushes push concat_map range_words
pushes_fit [] t c h = let e : c + 0 ≡ c = omega arith in rw e
pushes_fit (p ∷ ps) t c h =
    let d : c * 2 + 1 ≡ suc (c * 2) = omega arith in
    let a : (c + 1) * 2 ≡ suc (suc (c * 2)) = omega arith in
    let b : c + 1 + length ps ≡ c + suc (length ps) = omega arith in
    rw (lt-ltb c (length t / 2) (omega arith), pushes_fit ps (set (set t (c * 2) p.0) (c * 2 + 1) p.1) (c + 1) (simp length-set (omega arith)), d, a, b)

count_of : Page → ℕ
count_of (page t c) = c

table_of : Page → List ℕ
table_of (page t c) = t

push_count : (q : Page) (p : Range) → count_of (push q p) ≡ count_of q + 1
unfolding push count_of
push_count (page t c) p = go (ltb c (length t / 2))
  where
    go : (b : Bool) → count_of (cond b (page (set (set t (c * 2) p.0) (c * 2 + 1) p.1) (c + 1)) (page t (c + 1))) ≡ c + 1
    go true = refl
    go false = refl

pushes_count : (ps : List Range) (q : Page) → count_of (pushes q ps) ≡ count_of q + length ps
unfolding pushes
pushes_count [] q = omega arith
pushes_count (p ∷ ps) q = omega (arith, pushes_count ps (push q p), push_count q p)

push_long : (t : List ℕ) (c : ℕ) (p : Range) → length (table_of (push (page t c) p)) ≡ length t
unfolding push table_of
push_long t c p = go (ltb c (length t / 2))
  where
    go : (b : Bool) → length (table_of (cond b (page (set (set t (c * 2) p.0) (c * 2 + 1) p.1) (c + 1)) (page t (c + 1)))) ≡ length t
    go true = simp length-set
    go false = refl

pushes_long : (ps : List Range) (q : Page) → length (table_of (pushes q ps)) ≡ length (table_of q)
unfolding pushes table_of
pushes_long [] q = refl
pushes_long (p ∷ ps) (page t c) = pushes_long ps (push (page t c) p) ∙ push_long t c p

words_length : (ps : List Range) → length (concat_map range_words ps) ≡ 2 * length ps
unfolding concat_map range_words
words_length [] = refl
words_length (p ∷ ps) = omega (arith, words_length ps)

pub listed : {ps : List Range} {t t' : List ℕ} {r : ℕ} → Pushed t 0 ps t' r → Listed ps t t' r
unfolding count_of table_of
listed {ps} {t} {t'} {r} p = record {
  count = let e : r ≡ 0 + length ps = ap count_of p.is ∙ pushes_count ps (page t 0) in omega arith;
  long = ap (λ (q : Page). length (table_of q)) p.is ∙ pushes_long ps (page t 0);
  held = λ h.
      let a : 0 + length (concat_map range_words ps) ≡ 2 * length ps = omega (arith, words_length ps) in
      let b : t' ≡ sets t 0 (concat_map range_words ps) = ap table_of p.is ∙ ap table_of (pushes_fit ps t 0 (omega arith)) in
      b ∙ sets-eq (concat_map range_words ps) t 0 (omega arith) ∙ rw a;
}

-- a loop that pushes: what is left, pushed on what is written, is the whole
pub record Going (g₀ : List ℕ) (all : List Range) (g : List ℕ) (c : ℕ) (left : List Range) : Type 0 where
  pub is : pushes (page g c) left ≡ pushes (page g₀ 0) all

pub going_start : (g₀ : List ℕ) (all : List Range) → Going g₀ all g₀ 0 all
going_start g₀ all = record { is = refl }

module _ {g₀ : List ℕ} {all : List Range} {g : List ℕ} {c : ℕ} {left : List Range} (s : Going g₀ all g c left) where
  pub going_turn : {p : Range} {ps : List Range} {g' : List ℕ} {c' : ℕ} → left ≡ p ∷ ps → Pushed g c (p ∷ []) g' c' → Going g₀ all g' c' ps
  unfolding pushes
  going_turn e w = record { is = rw w.is (rw e at s.is) }

  pub going_done : left ≡ [] → Listed all g₀ g c
  unfolding pushes
  going_done e = listed (record { is = rw e at s.is })
