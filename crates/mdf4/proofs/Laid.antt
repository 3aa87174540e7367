-- What holds of every accepted layout: it was walked, its offsets ascend, and its gaps and clear ranges hold the right bytes.
use mathlib.Core.Path.{◌≡◌, refl, sym, ap, ◌∙◌}
use mathlib.Core.Bool.{Bool, true, false, not, ◌||◌, ◌&&◌, and-false}
use mathlib.Core.List.{List, [], ◌∷◌, map}
use Prim.Native.Nat.{ℕ, ◌+◌, ◌≤◌, ◌<◌, max}
use native.Mathlib.Omega.{arith}
use lib.Dec.{ltb, eqb}
use lib.ListN.{length, get_or}
use borrow.Author.Tests.{ltb-true, ltb-false, eqb-true, lt-ltb, le-ltb, le-leb}
use Rattle.mdf4.specs.Bytes.{num, Range, inside, bit, count, tally}
use Rattle.mdf4.specs.Act.{Out, ok, and_then, Row, State, Limits, elem, reason}
use Rattle.mdf4.specs.Kinds.{null}
use Rattle.mdf4.specs.Walk.{walk, start}
use Rattle.mdf4.specs.Reads.{read_ranges, kept_ranges, spared_ranges}
use Rattle.mdf4.specs.Layout.{sort, extent, Layout, layout_of, walk_state, gaps_fitted, layout_if, layout}
use Rattle.mdf4.specs.Clear.{is_clear, none, close, clear_ranges}
use Rattle.mdf4.specs.Demand3.{sizes, Apart, Gap, Block, offsets}
use Rattle.mdf4.proofs.Results.{and_then_ok, check_ok, reason_ok}
use Rattle.mdf4.proofs.Walk.{walk_inv, walk_id}
use Rattle.mdf4.proofs.Bytes.{not_or, inside_append}
use Rattle.mdf4.proofs.Lists.{All, all_at}
use Rattle.mdf4.proofs.Gaps.{gaps_of, gap_sizes, all_gaps, gaps_behind}
use Rattle.mdf4.proofs.Good.{Inv, offs}
use Rattle.mdf4.proofs.Order.{Rising, Above, elem_sort, rising_sort, tidy_sort}
use Rattle.mdf4.proofs.Runs.{window, runs_inside, runs_apart, fewest}
use Rattle.mdf4.proofs.Linked.{block_read, block_kept}

above_not : (x : ℕ) (ws : List Row) → Above x ws → elem 0 (offs ws) ≡ true → ⊥
unfolding elem
above_not x [] a h = let w : ◌≡◌ {A = ℕ} 0 1 = cc in omega arith
above_not x (w ∷ ws) a h = go (eqb 0 w.off) refl h (above_not x ws a.1)
  where
    go : (b : Bool) → eqb 0 w.off ≡ b → (b || elem 0 (offs ws)) ≡ true → (elem 0 (offs ws) ≡ true → ⊥) → ⊥
    go true e q ih = let z : 0 ≡ w.off = eqb-true 0 w.off e in omega (arith, a.0)
    go false e q ih = ih q

least_first : (ws : List Row) → Rising ws → elem 0 (offs ws) ≡ true → (w : Row) × (vs : List Row) × (ws ≡ w ∷ vs) × (w.off ≡ 0)
unfolding elem
least_first [] a h = let w : ◌≡◌ {A = ℕ} 0 1 = cc in absurd (omega arith)
least_first (w ∷ ws) a h = go (eqb 0 w.off) refl h
  where
    go : (b : Bool) → eqb 0 w.off ≡ b → (b || elem 0 (offs ws)) ≡ true → (u : Row) × (vs : List Row) × (◌≡◌ {A = List Row} (w ∷ ws) (u ∷ vs)) × (u.off ≡ 0)
    go true e q = (w, ws, refl, sym (eqb-true 0 w.off e))
    go false e q = absurd (above_not w.off ws a.0 q)

-- the walk's answer, with and without its stopping block
pub state_walked : (lim : Limits) (r : List ℕ) (s : State) → walk_state lim r ≡ ok s → walk r (start lim) ≡ ok (tt, s)
unfolding walk_state
state_walked lim r s e =
    let p = and_then_ok (reason (walk r (start lim))) _ s e in
    let z : p.0.1 ≡ s = cc in
    reason_ok (walk r (start lim)) (tt, s) (p.1 ∙ ap (λ t. ok (tt, t)) z)

pub walked_state : (lim : Limits) (r : List ℕ) (s : State) → walk r (start lim) ≡ ok (tt, s) → walk_state lim r ≡ ok s
unfolding walk_state and_then reason
walked_state lim r s e = rw e

fitted_is : (lent : ℕ) (y y' : Layout) → gaps_fitted lent y ≡ ok y' → y' ≡ y
unfolding gaps_fitted
fitted_is lent y y' e = let q = (check_ok _ _ _ _ e).1 in cc

-- where an entry asks more and accepts, it was granted, and the layout is that of an entry which asks nothing
pub granted : (asked : Out (Unit {0})) (lim : Limits) (lent : ℕ) (r : List ℕ) (y : Layout) → layout_if asked lim lent r ≡ ok y → (asked ≡ ok tt) × (layout lim lent r ≡ ok y)
unfolding layout layout_if and_then
granted asked lim lent r y e =
    let p = and_then_ok (walk_state lim r) _ y e in
    let q = and_then_ok asked _ y p.2 in
    (q.1, rw p.1 q.2)

module _ (lim : Limits) (lent : ℕ) (r : List ℕ) (y : Layout) (e : layout lim lent r ≡ ok y) where
  -- an accepted recording was walked, and its layout is the state's
  pub walked : (s : State) × (walk r (start lim) ≡ ok (tt, s)) × (y ≡ layout_of r s)
  unfolding layout layout_if and_then
  walked =
      let p = and_then_ok (walk_state lim r) _ y e in
      (p.0, state_walked lim r p.0 p.1, fitted_is lent (layout_of r p.0) y p.2)

  pub state_is : y.state ≡ walked.0
  unfolding layout_of
  state_is = ap (λ (z : Layout). z.state) walked.2

  pub inv : Inv r walked.0
  inv = walk_inv lim r walked.0 walked.1

  state_inv : Inv r y.state
  state_inv = rw state_is inv

  rows_rise : Rising (sort walked.0.rows)
  rows_rise = rising_sort walked.0.rows inv.apart

  -- listed offsets strictly ascend
  pub ascending : Rising y.blocks
  unfolding layout_of
  ascending = rw walked.2 rows_rise

  -- the first row is the ID's
  pub id_first : (w : Row) × (ws : List Row) × (y.blocks ≡ w ∷ ws) × (w.off ≡ 0)
  unfolding layout_of
  id_first =
      let h = walk_id lim r walked.0 walked.1 in
      let g : elem 0 (offs (sort walked.0.rows)) ≡ true = elem_sort 0 walked.0.rows ∙ h in
      let q = least_first (sort walked.0.rows) rows_rise g in
      (q.0, q.1, ap (λ (z : Layout). z.blocks) walked.2 ∙ q.2, q.3)

  -- each byte lies in exactly one gap if no extent holds it, otherwise in none
  pub partition : (i : ℕ) → i < length r → count i y.gaps ≡ bit (not (inside i (map extent y.blocks)))
  unfolding layout_of
  partition i l = rw walked.2 (gaps_of (length r) i (sort walked.0.rows) rows_rise (tidy_sort (length r) walked.0.rows inv.tidy) l)

  -- each gap is one as document 01 has it
  pub each_gap : (i : ℕ) → i < length y.gaps → Gap (length r) (offsets (map extent y.blocks)) (get_or y.gaps i (0, 0))
  unfolding layout_of
  each_gap i l =
      let g : All (Gap (length r) (offsets (map extent y.blocks))) y.gaps
      = rw walked.2 (all_gaps (length r) (sort walked.0.rows) rows_rise (tidy_sort (length r) walked.0.rows inv.tidy)) in
      all_at _ y.gaps i (0, 0) g l

  -- gap sizes add up to the number of bytes that no extent holds
  pub gaps_add_up : sizes y.gaps ≡ tally (λ i. bit (not (inside i (map extent y.blocks)))) (length r)
  unfolding layout_of
  gaps_add_up = rw walked.2 (gap_sizes (length r) (sort walked.0.rows) rows_rise (tidy_sort (length r) walked.0.rows inv.tidy))

  -- no gap reaches behind the recording
  no_gap_behind : (i : ℕ) → length r ≤ i → inside i y.gaps ≡ false
  unfolding layout_of
  no_gap_behind i l = rw walked.2 (gaps_behind (length r) i (sort walked.0.rows) (tidy_sort (length r) walked.0.rows inv.tidy) l)

  -- a byte lies in a clear range exactly when it lies in a gap and in no range that is spared
  clear_exactly : (i : ℕ) → inside i (clear_ranges r y) ≡ (inside i y.gaps && not (inside i (spared_ranges r y.state)))
  unfolding clear_ranges close inside window is_clear
  clear_exactly i =
      runs_inside (is_clear y.gaps (spared_ranges r y.state)) none 0 (length r) i tt ∙ rw (le-leb 0 i (omega arith)) (go (ltb i (length r)) refl)
    where
      go : (t : Bool) → ltb i (length r) ≡ t → (ltb i (0 + length r) && is_clear y.gaps (spared_ranges r y.state) i) ≡ is_clear y.gaps (spared_ranges r y.state) i
      go true e = rw (lt-ltb i (0 + length r) (omega (arith, ltb-true i (length r) e)))
      go false e = rw (le-ltb i (0 + length r) (omega (arith, ltb-false i (length r) e)), no_gap_behind i (ltb-false i (length r) e))

  -- that is, when it is neither read nor kept
  pub clear_neither : (i : ℕ) → inside i (clear_ranges r y) ≡ (inside i y.gaps && (not (inside i (read_ranges r y.state)) && not (inside i (kept_ranges r y.state))))
  unfolding spared_ranges
  clear_neither i = clear_exactly i ∙ rw (inside_append, not_or)

  -- a clear byte lies in the recording
  pub clear_below : (i : ℕ) → inside i (clear_ranges r y) ≡ true → i < length r
  clear_below i h = go (ltb i (length r)) refl
    where
      go : (t : Bool) → ltb i (length r) ≡ t → i < length r
      go true q = ltb-true i (length r) q
      go false q =
          let z : inside i (clear_ranges r y) ≡ false = clear_exactly i ∙ rw (no_gap_behind i (ltb-false i (length r) q)) in
          let w : ◌≡◌ {A = ℕ} 0 1 = cc in absurd (omega arith)

  -- document 02, order 1: the 24 bytes of a block that a link leads to are read, and neither they nor those of its extent are clear
  module _ (j : ℕ) (l : j < length y.state.links) (b : Block r (get_or y.state.links j null).target) where
    abbrev target : ℕ
    target = (get_or y.state.links j null).target

    pub block_header : (i : ℕ) → target ≤ i → i < target + 24 → inside i (read_ranges r y.state) ≡ true
    block_header = block_read r y.state state_inv j l b

    pub block_not_clear : (i : ℕ) → target ≤ i → i < target + max 24 (num r (target + 8) 8) → inside i (clear_ranges r y) ≡ false
    block_not_clear i m u = clear_neither i ∙ go (ltb i (target + 24)) refl (ltb i (length r)) refl
      where
        go : (s : Bool) → ltb i (target + 24) ≡ s → (t : Bool) → ltb i (length r) ≡ t
            → (inside i y.gaps && (not (inside i (read_ranges r y.state)) && not (inside i (kept_ranges r y.state)))) ≡ false
        go true h t k = rw (block_header i m (ltb-true i (target + 24) h)) (and-false (inside i y.gaps))
        go false h true k =
            let z = ltb-false i (target + 24) h in
            rw (block_kept r y.state state_inv j l b i m (omega (arith, u, z)) (ltb-true i (length r) k), and-false, and-false)
        go false h false k = rw (no_gap_behind i (ltb-false i (length r) k))

  -- the clear ranges are nonempty, ascend and do not touch
  pub clear_apart : Apart 0 (clear_ranges r y)
  unfolding clear_ranges
  clear_apart = runs_apart (is_clear y.gaps (spared_ranges r y.state)) 0 none 0 (length r) (omega arith)

  -- and no list of ranges that holds the same bytes is shorter
  pub clear_fewest : (qs : List Range) → ((j : ℕ) → inside j (clear_ranges r y) ≡ inside j qs) → length (clear_ranges r y) ≤ length qs
  clear_fewest qs h = fewest 0 (clear_ranges r y) qs clear_apart h
