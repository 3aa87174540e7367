-- The clear ranges of an accepted recording, from the scratch table.
use mathlib.Core.Path.{◌≡◌, refl, sym, ap, ◌∙◌}
use mathlib.Core.Bool.{Bool, true, false, cond, not, ◌||◌, ◌&&◌, and-false}
use mathlib.Core.List.{List, [], ◌∷◌, ◌++◌, map}
use Prim.Native.Nat.{ℕ, suc, ◌+◌, ◌/◌, ◌≤◌, ◌<◌, max}
use native.Mathlib.Omega.{arith}
use lib.Dec.{ltb}
use lib.ListN.{length}
use borrow.Author.Tests.{le-leb, lt-leb, le-ltb, ltb-true, ltb-false}
use Rattle.mdf4.specs.Bytes.{Range, within, inside}
use Rattle.mdf4.specs.Act.{ok, check, State, Row, Link}
use Rattle.mdf4.specs.Reads.{spared_ranges}
use Rattle.mdf4.specs.Layout.{sort, extent, gap, compute_gaps, Layout, layout_of}
use Rattle.mdf4.specs.Clear.{is_clear, none, close, clear_ranges}
use Rattle.mdf4.specs.Answers.{room}
use Rattle.mdf4.specs.Demand3.{Apart, ranges_in}
use Rattle.mdf4.proofs.Bytes.{not_or, inside_append}
use Rattle.mdf4.proofs.Lists.{All, all_map}
use Rattle.mdf4.proofs.Order.{rising_sort, tidy_sort}
use Rattle.mdf4.proofs.Gaps.{Ordered, gaps_count, gaps_of, inside_count}
use Rattle.mdf4.proofs.Good.{Inv}
use Rattle.mdf4.proofs.Runs.{window, runs_inside, runs_apart, apart_unique}
use Rattle.tables.specs.Sort.{Sorted}
use Rattle.tables.specs.Gaps.{Listed}
use Rattle.mdf4.proofs.Demand3.{pairs_in}
use Rattle.scratch_rows.specs.Covers.{covers}
use Rattle.clear_ranges.specs.Spared.{SparedMet, spared_room}
use Rattle.std.specs.Prelude.{Ok, Err}
use Rattle.blocks.specs.declared.error.MdfError.TheVariants.{TableTooShort}
use Rattle.scratch_rows.proofs.Covering.{Taken, covers_length, covers_inside}
use Rattle.clear_ranges.proofs.SortedRanges.{sorted_inside, sorted_all, sorted_ordered}

-- What ranges leave

gap_beyond : (j a b : ℕ) → b ≤ j → inside j (gap a b) ≡ false
unfolding gap inside within
gap_beyond j a b h = go (ltb a b)
  where
    go : (t : Bool) → inside j (cond t ((a, b) ∷ []) []) ≡ false
    go true = rw (le-ltb j b h, and-false)
    go false = refl

gaps_beyond : (len cursor j : ℕ) (ps : List Range) → All (Taken len) ps → len ≤ j → inside j (compute_gaps len cursor ps) ≡ false
unfolding compute_gaps
gaps_beyond len cursor j [] a h = gap_beyond j cursor len h
gaps_beyond len cursor j (p ∷ ps) a h =
    inside_append j (gap cursor p.0) (compute_gaps len (max cursor p.1) ps)
    ∙ rw (gap_beyond j cursor p.0 (omega arith), gaps_beyond len (max cursor p.1) j ps a.1 h)

gaps_inside : (len j : ℕ) (ps : List Range) → Ordered 0 ps → All (Taken len) ps → inside j (compute_gaps len 0 ps) ≡ (ltb j len && not (inside j ps))
gaps_inside len j ps o a = go (ltb j len) refl
  where
    go : (t : Bool) → ltb j len ≡ t → inside j (compute_gaps len 0 ps) ≡ (t && not (inside j ps))
    go true e =
        let count = gaps_count len 0 0 j ps o (ltb-true j len e) ∙ rw (le-leb 0 j (omega arith)) in
        inside_count j (compute_gaps len 0 ps) (not (inside j ps)) count
    go false e = gaps_beyond len 0 j ps a (ltb-false j len e)

gaps_apart : (len cursor lo : ℕ) (ps : List Range) → lo ≤ cursor → All (Taken len) ps → Apart lo (compute_gaps len cursor ps)
unfolding compute_gaps gap
gaps_apart len cursor lo [] h a = go (ltb cursor len) refl
  where
    go : (t : Bool) → ltb cursor len ≡ t → Apart lo (cond t ((cursor, len) ∷ []) [])
    go true e = (h, ltb-true cursor len e, tt)
    go false e = tt
gaps_apart len cursor lo (p ∷ ps) h a =
    let from : ℕ = max cursor p.1 in
    go (ltb cursor p.0) refl (gaps_apart len from (suc p.0) ps (omega arith) a.1) (gaps_apart len from lo ps (omega arith) a.1)
  where
    go : (t : Bool) → ltb cursor p.0 ≡ t → Apart (suc p.0) (compute_gaps len (max cursor p.1) ps) → Apart lo (compute_gaps len (max cursor p.1) ps)
        → Apart lo (cond t ((cursor, p.0) ∷ []) [] ++ compute_gaps len (max cursor p.1) ps)
    go true e x y = (h, ltb-true cursor p.0 e, x)
    go false e x y = y

-- The clear ranges

module _ (r : List ℕ) (s : State) (v : Inv r s) where
  clear_inside : (j : ℕ) → inside j (clear_ranges r (layout_of r s))
      ≡ (ltb j (length r) && not (inside j (map extent (sort s.rows)) || inside j (spared_ranges r s)))
  unfolding clear_ranges close inside window is_clear layout_of
  clear_inside j =
      let y = layout_of r s in
      let z : 0 + length r ≡ length r = omega arith in
      runs_inside (is_clear y.gaps (spared_ranges r s)) none 0 (length r) j tt ∙ rw (le-leb 0 j (omega arith), z) (go (ltb j (length r)) refl)
    where
      go : (t : Bool) → ltb j (length r) ≡ t
          → (t && (inside j (compute_gaps (length r) 0 (map extent (sort s.rows))) && not (inside j (spared_ranges r s))))
          ≡ (t && not (inside j (map extent (sort s.rows)) || inside j (spared_ranges r s)))
      go true e =
          let q = inside_count j (compute_gaps (length r) 0 (map extent (sort s.rows))) (not (inside j (map extent (sort s.rows))))
          (gaps_of (length r) j (sort s.rows) (rising_sort s.rows v.apart) (tidy_sort (length r) s.rows v.tidy) (ltb-true j (length r) e)) in
          rw q (sym (not_or (inside j (map extent (sort s.rows))) (inside j (spared_ranges r s))))
      go false e = refl

  clear_apart : Apart 0 (clear_ranges r (layout_of r s))
  unfolding clear_ranges
  clear_apart = runs_apart (is_clear (layout_of r s).gaps (spared_ranges r (layout_of r s).state)) 0 none 0 (length r) (omega arith)

  -- ranges in order that hold the bytes of the blocks and those read leave just the clear ones
  clear_is : (ps : List Range) → Ordered 0 ps → All (Taken (length r)) ps
      → ((j : ℕ) → inside j ps ≡ (inside j (map extent (sort s.rows)) || inside j (spared_ranges r s)))
      → compute_gaps (length r) 0 ps ≡ clear_ranges r (layout_of r s)
  clear_is ps o a h =
      apart_unique 0 (compute_gaps (length r) 0 ps) (clear_ranges r (layout_of r s)) (gaps_apart (length r) 0 0 ps (omega arith) a) clear_apart
      (λ j. gaps_inside (length r) j ps o a ∙ rw (h j) (sym (clear_inside j)))

-- The answers

module _ (r : List ℕ) (ws : List Row) (ls : List Link) {s s2 : List ℕ} {c : ℕ} (filled : Listed (covers r ws ls) s s2 c) where
  module _ (y : Layout) (e1 : y.blocks ≡ ws) (e2 : y.state.links ≡ ls) (v : Inv r y.state) (e3 : y ≡ layout_of r y.state) where
    sorted_are : ws ≡ sort y.state.rows
    unfolding layout_of
    sorted_are = sym e1 ∙ ap (λ (z : Layout). z.blocks) e3

    needed : c ≡ length (spared_ranges r y.state)
    needed = filled.count ∙ rw (sorted_are, ← e2) (covers_length r y.state v)

    holds : (j : ℕ) → inside j (covers r ws ls) ≡ (inside j (map extent (sort y.state.rows)) || inside j (spared_ranges r y.state))
    holds j = rw (sorted_are, ← e2) (covers_inside r y.state v j)

    pub refused_at : length s / 2 < c → SparedMet (Err (TableTooShort (length s / 2) c)) r y (length s) s2
    unfolding room check
    refused_at h = record { says = rw (← needed, lt-leb c (length s / 2) h) }

    room_at : c ≤ length s / 2 → spared_room r y (length s) ≡ ok tt
    unfolding room check
    room_at h = rw (← needed, le-leb c (length s / 2) h)

    -- the sorted scratch table leaves just the clear bytes
    clear_at : All (Taken (length r)) (covers r ws ls) → c ≤ length s / 2 → {s3 : List ℕ} → Sorted 2 c s2 s3
        → compute_gaps (length r) 0 (ranges_in 2 c s3) ≡ clear_ranges r y
    clear_at p h {s3} w =
        let ps : List Range = covers r ws ls in
        let k : c ≡ length ps = filled.count in
        let t : ranges_in 2 c s2 ≡ ps = rw (k, filled.held (omega arith)) (pairs_in ps _) in
        let a : All (Taken (length r)) (ranges_in 2 c s3) = sorted_all c s2 s3 w (Taken (length r)) (rw t p) in
        let o : Ordered 0 (ranges_in 2 c s3) = sorted_ordered c s2 s3 w (all_map _ _ (λ q x. x.0) (ranges_in 2 c s3) a) in
        clear_is r y.state v (ranges_in 2 c s3) o a (λ j. sorted_inside c s2 s3 w j ∙ ap (inside j) t ∙ holds j) ∙ ap (clear_ranges r) (sym e3)

    pub sorted_at : All (Taken (length r)) (covers r ws ls) → c ≤ length s / 2 → {s3 : List ℕ} → Sorted 2 c s2 s3 → SparedMet (Ok c) r y (length s) s3
    sorted_at p h w = record { says = (room_at h, record { fits = omega (arith, w.moved.long, filled.long); are = clear_at p h w }) }
