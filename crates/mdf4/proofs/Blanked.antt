-- Document 02's order 5: what specs/Blanked.antt states.
use mathlib.Core.Path.{◌≡◌, refl, sym, ap, ◌∙◌}
use mathlib.Core.Bool.{Bool, true, false, and-false}
use mathlib.Core.List.{List, [], ◌∷◌, ◌++◌, map}
use Prim.Native.Nat.{ℕ, suc, ◌+◌, ◌-◌, ◌/◌, ◌≤◌, ◌<◌, max}
use native.Mathlib.Omega.{arith}
use lib.Dec.{leb}
use lib.ListN.{length, length-map, get_or, replicate}
use borrow.Author.Tests.{leb-true}
use Rattle.mdf4.specs.Bytes.{num, Range, sum}
use Rattle.mdf4.specs.Act.{Refusal, refusal, Out, ok, err, and_then, check, State}
use Rattle.mdf4.specs.Kinds.{null}
use Rattle.mdf4.specs.Walk.{walk, start}
use Rattle.mdf4.specs.Layout.{Layout, layout, layout_of, walk_state}
use Rattle.mdf4.specs.Clear.{clear_ranges}
use Rattle.mdf4.specs.Blank.{zeroed, nonzero, changed}
use Rattle.mdf4.specs.Answers.{Lent, Counts, Made, made, Exit, exit, filled, room, laid, limits, counts, clearable, pair_words, clear_list_made, blank_made, counted, preview_made, layout_exit, to_text_exit, to_tree_exit, path_exit, clear_list_exit, blank_exit, preview_exit, blanked, blank_recording}
use Rattle.mdf4.specs.Demand3.{Block, read, read_by, kept, kept_by}
use Rattle.mdf4.specs.Blanked.{Blanks, ByList, AnyLent, Untouched, Once, After, Previews, ShownFirst, preview_uncounted, Idle}
use Rattle.mdf4.proofs.Results.{never}
use Rattle.mdf4.proofs.Lists.{all_map}
use Rattle.mdf4.proofs.Reading.{Agree}
use Rattle.mdf4.proofs.Laid.{walked, state_is, walked_state, clear_neither, clear_apart, clear_below, block_not_clear}
use Rattle.mdf4.proofs.Texts.{Shared, layout_of_same, clear_ranges_same, counting, counting_same}
use Rattle.mdf4.proofs.Demand3.{Same, same_layout, same_to_text, same_to_tree, same_path, same_clear_list, same_blank, same_preview, clearable_is, clear_list_cleared, blank_cleared, counting_cleared, clear_list_accepted, blank_accepted, preview_accepted, is, gaps_in_are, links_are, target_is, written}
use Rattle.mdf4.proofs.Lending.{clear_lending, state_other, ends_in, shared_other}
use Rattle.mdf4.proofs.Zeroed.{zeroed_length, zeroed_at, zeroed_twice, Held, all_held, map_same, nonzero_none, nonzero_changed, ends_below, sum_changed}

-- an accepted blanking, with the lengths n
module _ (n : Lent) (r : List ℕ) (y : Layout) (e : clearable n r ≡ ok y) where
  blank_is : blank_recording n r ≡ zeroed (clear_ranges r y) 0 r
  unfolding blank_recording blanked
  blank_is = rw e

  laid_is : layout (limits n) (n.gaps / pair_words) r ≡ ok y
  unfolding laid
  laid_is = clearable_is n r y e

  ended : State
  ended = (walked (limits n) (n.gaps / pair_words) r y laid_is).0

  ended_is : walk r (start (limits n)) ≡ ok (tt, ended)
  unfolding ended
  ended_is = (walked (limits n) (n.gaps / pair_words) r y laid_is).1

  layout_is : y ≡ layout_of r ended
  unfolding ended
  layout_is = (walked (limits n) (n.gaps / pair_words) r y laid_is).2

  -- it agrees with the recording on all that was read
  agrees : Agree r (blank_recording n r) ended
  unfolding ended
  agrees = rw blank_is (record {
    size = zeroed_length (clear_ranges r y) 0 r;
    at = λ i l h.
        let q = rw (← state_is (limits n) (n.gaps / pair_words) r y laid_is) at h in
        sym (zeroed_at (clear_ranges r y) r i ∙ rw (clear_neither (limits n) (n.gaps / pair_words) r y laid_is i, q, and-false));
  })

  -- order 1: of a block that a link leads to, the 24 bytes and those of the extent stay as they were
  keeps : (j : ℕ) → j < length y.state.links → Block r (get_or y.state.links j null).target → (i : ℕ) → (get_or y.state.links j null).target ≤ i
      → i < (get_or y.state.links j null).target + max 24 (num r ((get_or y.state.links j null).target + 8) 8) → get_or (blank_recording n r) i 0 ≡ get_or r i 0
  keeps j l b i m u = rw blank_is (zeroed_at (clear_ranges r y) r i ∙ rw (block_not_clear (limits n) (n.gaps / pair_words) r y laid_is j l b i m u))

  -- a later call, with the lengths n'
  module _ (n' : Lent) where
    walks : walk_state (limits n') (blank_recording n r) ≡ walk_state (limits n') r
    walks = state_other (limits n) r (blank_recording n r) ended ended_is agrees (limits n')

    there : (s : State) → walk_state (limits n') r ≡ ok s → Shared r (blank_recording n r) s
    there = shared_other (limits n) r (blank_recording n r) ended ended_is agrees (limits n')

    -- its clear ranges, where it has any, are the ones that were zeroed
    ranges_are : (s : State) → walk_state (limits n') r ≡ ok s → clear_ranges r (layout_of r s) ≡ clear_ranges r y
    ranges_are s q =
        rw (← ends_in (limits n) r (blank_recording n r) ended ended_is agrees (limits n') s q) (clear_lending (limits n') r ended)
        ∙ ap (clear_ranges r) (sym layout_is)

    -- of the recording before it was blanked, and after
    ranges_before : (y' : Layout) → clearable n' r ≡ ok y' → clear_ranges r y' ≡ clear_ranges r y
    ranges_before y' q =
        let w = walked (limits n') (n'.gaps / pair_words) r y' (unfold laid in clearable_is n' r y' q) in
        ap (clear_ranges r) w.2 ∙ ranges_are w.0 (walked_state (limits n') r w.0 w.1)

    ranges_after : (y' : Layout) → clearable n' (blank_recording n r) ≡ ok y' → clear_ranges (blank_recording n r) y' ≡ clear_ranges r y
    ranges_after y' q =
        let r' = blank_recording n r in
        let w = walked (limits n') (n'.gaps / pair_words) r' y' (unfold laid in clearable_is n' r' y' q) in
        let v : walk_state (limits n') r ≡ ok w.0 = sym walks ∙ walked_state (limits n') r' w.0 w.1 in
        let t = there w.0 v in
        ap (clear_ranges r') (w.2 ∙ sym (layout_of_same r r' w.0 t)) ∙ sym (clear_ranges_same r r' w.0 t) ∙ ranges_are w.0 v

    -- a second blanking changes no byte
    second : blank_recording n' (blank_recording n r) ≡ blank_recording n r
    unfolding blank_recording blanked
    second = go (clearable n' (blank_recording n r)) refl
      where
        go : (o : Out Layout) → clearable n' (blank_recording n r) ≡ o → blanked (blank_recording n r) o ≡ blank_recording n r
        go (ok y') p = rw (ranges_after y' p, blank_is) (zeroed_twice (clear_ranges r y) 0 r)
        go (err x) p = refl

    -- a preview counts 0 in every range
    counts_none : (s : State) → walk_state (limits n') r ≡ ok s → map (λ g. 0) (clear_ranges r (layout_of r s)) ≡ map (nonzero (blank_recording n r)) (clear_ranges r (layout_of r s))
    counts_none s q =
        let ps = clear_ranges r y in
        rw (ranges_are s q, blank_is) (map_same (λ g. 0) (nonzero (zeroed ps 0 r)) ps (all_map (Held ps) _ (λ g h. nonzero_none ps r g h) ps (all_held ps ps (λ i h. h))))

    nothing_left : counting (nonzero (blank_recording n r)) n' (blank_recording n r) ≡ counting (λ g. 0) n' r
    nothing_left = sym (counting_same n' r (blank_recording n r) _ refl walks there (λ g. 0) (nonzero (blank_recording n r)) counts_none)

-- the clear ranges that an accepted blanking has zeroed
cleared_by : (n : Lent) (r : List ℕ) (c : Counts) → (blank_exit n r).answer ≡ ok c → (y : Layout) × (clearable n r ≡ ok y)
cleared_by n r c e = let a = blank_accepted n r c e in (a.x.layout, blank_cleared n r a.x a.made_is)

pub blanks : (n : Lent) (r : List ℕ) (c : Counts) → (blank_exit n r).answer ≡ ok c → Blanks n r (blank_recording n r) (blank_exit n r) c
unfolding blank_exit read read_by kept kept_by
blanks n r c e =
    let a = blank_accepted n r c (unfold blank_exit in e) in
    let y = a.x.layout in
    let h = blank_cleared n r a.x a.made_is in
    let b = blank_is n r y h in
    record {
      size = rw b (sym (zeroed_length (clear_ranges r y) 0 r));
      byte = λ i.
          let t = clear_neither (limits n) (n.gaps / pair_words) r y (is n r (blank_made n r) c a) i in
          rw (b, gaps_in_are n r (blank_made n r) c a, a.laid_is, ← t) (zeroed_at (clear_ranges r y) r i);
      spares = λ j l. rw (target_is n r (blank_made n r) c a j) (keeps n r y h j (rw (← links_are n r (blank_made n r) c a) l));
    }

pub by_list : ByList
by_list = record {
  same = λ n n' r c c' e e'.
      let p = cleared_by n r c e in
      let a = clear_list_accepted n' r c' e' in
      let q = clear_list_cleared n' r a.x a.made_is in (
        clear_ranges r a.x.layout,
        unfold clear_list_exit in (written n' r (clear_list_made n' r) c' a ∙ q.1),
        blank_is n r p.0 p.1 ∙ rw (ranges_before n r p.0 p.1 n' a.x.layout q.0),
      );
}

pub any_lent : AnyLent
any_lent = record {
  same = λ n n' r c c' e e'.
      let p = cleared_by n r c e in
      let q = cleared_by n' r c' e' in
      blank_is n' r q.0 q.1 ∙ rw (ranges_before n r p.0 p.1 n' q.0 q.1) (sym (blank_is n r p.0 p.1));
}

pub untouched : Untouched
unfolding blank_exit blank_made blank_recording blanked and_then exit
untouched = record { same = λ n r z e. go n r z (clearable n r) e }
  where
    go : (n : Lent) (r : List ℕ) (z : Refusal) (o : Out Layout) → (exit n (and_then o (λ y. ok (made y [] [])))).answer ≡ err z → blanked r o ≡ r
    go n r z (ok y) e = never e
    go n r z (err x) e = refl

pub blank_once : Once
blank_once = record { same = λ n r c e n'. let p = cleared_by n r c e in second n r p.0 p.1 n' }

-- No entry sees a difference, whatever is lent to it; of the preview all but what it counts
after : (entry : Lent → List ℕ → Exit) → Same entry → After entry
after entry h = record { same = λ n r c e n'. let p = cleared_by n r c e in sym (h.same n' r (blank_recording n r) _ refl (walks n r p.0 p.1 n') (there n r p.0 p.1 n')) }

pub layout_after : After layout_exit
layout_after = after layout_exit same_layout

pub to_text_after : After to_text_exit
to_text_after = after to_text_exit same_to_text

pub to_tree_after : After to_tree_exit
to_tree_after = after to_tree_exit same_to_tree

pub path_after : (a : ℕ) → After (path_exit a)
path_after a = after (path_exit a) (same_path a)

pub clear_list_after : After clear_list_exit
clear_list_after = after clear_list_exit same_clear_list

pub blank_after : After blank_exit
blank_after = after blank_exit same_blank

pub preview_after : After preview_uncounted
preview_after = after preview_uncounted same_preview

-- The preview shows what the blanker does to a copy, with whatever lengths it accepts
pub previews : (n n' : Lent) (r : List ℕ) (c c' : Counts) → (preview_exit n r).answer ≡ ok c → (blank_exit n' r).answer ≡ ok c'
    → Previews n r (blank_recording n' r) (preview_exit n r) c
unfolding preview_exit preview_made counting read read_by kept kept_by counts
previews n n' r c c' e e' =
    let a = preview_accepted n r c (unfold preview_exit preview_made counting in e) in
    let m = counting (nonzero r) n r in
    let p = counting_cleared n r (nonzero r) a.x a.made_is in
    let y = a.x.layout in
    let ps = clear_ranges r y in
    let q = cleared_by n' r c' e' in
    let b : blank_recording n' r ≡ zeroed ps 0 r = blank_is n' r q.0 q.1 ∙ rw (ranges_before n r y p.0 n' q.0 q.1) in
    let i = is n r m c a in
    let k = clear_apart (limits n) (n.gaps / pair_words) r y i in
    record {
      ranges = ps;
      exact = λ j. rw (gaps_in_are n r m c a, a.laid_is) (clear_neither (limits n) (n.gaps / pair_words) r y i j);
      apart = k;
      count = written n r m c a ∙ p.1
          ∙ rw b (map_same (nonzero r) (changed r (zeroed ps 0 r)) ps (all_map (Held ps) _ (λ g h. nonzero_changed ps r g h) ps (all_held ps ps (λ i h. h))));
      total = sym (ap (λ (k : Counts). k.total) a.counted) ∙ p.2 ∙ ap sum p.1
          ∙ rw b (sum_changed ps r k (ends_below (length r) 0 ps k (clear_below (limits n) (n.gaps / pair_words) r y i)));
    }

pub shown_first : ShownFirst
unfolding preview_exit preview_made counting blank_exit blank_made and_then exit
shown_first = record {
  accepts = λ n r c e.
      let a = preview_accepted n r c (unfold preview_exit preview_made counting in e) in
      let p = counting_cleared n r (nonzero r) a.x a.made_is in
      (counts (made a.x.layout [] []), rw p.0);
}

-- After a blanking it counts 0 throughout
abbrev all_0 : List Range → List ℕ
all_0 ps = map (λ g. 0) ps

sum_all_0 : (ps : List Range) → sum (all_0 ps) ≡ 0
unfolding sum
sum_all_0 [] = refl
sum_all_0 (p ∷ ps) = omega (arith, sum_all_0 ps)

filled_all_0 : (ps : List Range) (k : ℕ) → all_0 ps ++ replicate k 0 ≡ replicate (length ps + k) 0
filled_all_0 [] k = let z : 0 + k ≡ k = omega arith in rw z
filled_all_0 (p ∷ ps) k = let z : suc (length ps) + k ≡ suc (length ps + k) = omega arith in rw (z, filled_all_0 ps k)

out_all_0 : (n : Lent) (r : List ℕ) → (exit n (counting (λ g. 0) n r)).out ≡ replicate n.out 0
unfolding counting exit filled counted and_then room check
out_all_0 n r = go (clearable n r)
  where
    fits : (y : Layout) (b : Bool) → leb (length (clear_ranges r y)) n.out ≡ b
        → (exit n (and_then (check b (refusal 13 0 n.out (length (clear_ranges r y)))) (λ u. ok (counted y (all_0 (clear_ranges r y)))))).out ≡ replicate n.out 0
    fits y true q =
        let l = leb-true (length (clear_ranges r y)) n.out q in
        let z : length (clear_ranges r y) + (n.out - length (clear_ranges r y)) ≡ n.out = omega arith in
        rw (length-map {B = ℕ} (clear_ranges r y) (λ g. 0)) (filled_all_0 (clear_ranges r y) (n.out - length (clear_ranges r y)) ∙ rw z)
    fits y false q = refl

    go : (o : Out Layout) → (exit n (and_then o (λ y. and_then (room n.out (length (clear_ranges r y))) (λ u. ok (counted y (all_0 (clear_ranges r y))))))).out ≡ replicate n.out 0
    go (ok y) = fits y (leb (length (clear_ranges r y)) n.out) refl
    go (err x) = refl

pub idle : Idle
unfolding preview_exit preview_made counting counts
idle = record {
  out = λ n r c e n'.
      let p = cleared_by n r c e in
      ap (λ (m : Out Made). (exit n' m).out) (nothing_left n r p.0 p.1 n') ∙ out_all_0 n' r;
  total = λ n r c e n' c' e'.
      let p = cleared_by n r c e in
      let a = preview_accepted n' (blank_recording n r) c' (unfold preview_exit preview_made counting in e') in
      let q = counting_cleared n' r (λ g. 0) a.x (sym (nothing_left n r p.0 p.1 n') ∙ a.made_is) in
      sym (ap (λ (k : Counts). k.total) a.counted) ∙ q.2 ∙ ap sum q.1 ∙ sum_all_0 (clear_ranges r a.x.layout);
}
