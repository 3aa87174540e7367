-- The walk is good, and so two recordings that agree on what the first one reads give one state.
use mathlib.Core.Path.{◌≡◌, refl, ap, ◌∙◌}
use mathlib.Core.Bool.{true}
use mathlib.Core.List.{List}
use Prim.Native.Nat.{ℕ, zero, suc, ◌+◌, ◌≤◌, ◌<◌}
use native.Mathlib.Omega.{arith}
use lib.Dec.{leb, eqb}
use lib.ListN.{length}
use Rattle.mdf4.specs.Bytes.{bytes}
use Rattle.mdf4.specs.Act.{refusal, Result, Stop, ok, and_then, Kind, ID, UT, UD, Link, State, Limits, Act, choose, pure, ◌>>◌, elem, visit, once}
use Rattle.mdf4.specs.Kinds.{RecordLayout, no_records, shape, is, rest, read_len}
use Rattle.mdf4.specs.Walk.{enter, text_kind, enter_text, walk_text_like, walk_source, walk_conversion, record_data_block, record_unknown_block, walk_data_block, walk_data_region, walk_channel, walk_channel_group, walk_data_group, walk_header, start, walk_identification, walk, walk_data_list, list_too_deep, Handed, Block, walk_from_header}
use Rattle.mdf4.proofs.Results.{and_then_ok, ok_both, on, both_then}
use Rattle.mdf4.proofs.Reading.{row_links, Reads, Agree, lending}
use Rattle.mdf4.proofs.Good.{Good, Any, Ready, Inv, again, good_pure, good_stop, good_bind, good_then, good_choose, good_sized, good_seen, good_weaken, good_chain, good_by_link, good_each_link, good_once, good_enter, enter_head, enter_listed, enter_whole, enter_reads, offs}

pub ruleset shapes = (good_pure, good_stop, good_bind, good_then, good_choose, good_sized, good_seen, good_chain, good_by_link, good_each_link, good_once, good_enter)

pub good_enter_text : (a : ℕ) → Good (Ready a) (enter_text a)
unfolding enter_text and_then
good_enter_text a = record {
  went = λ r s x s' e.
      let k = text_kind (bytes r a 24) in
      let q = and_then_ok (enter k a (no_records 0) r s) (λ p. ok (tt {0}, p.1)) (x, s') e in
      let z : q.0.1 ≡ s' = (ok_both tt x q.0.1 s' q.2).1 in
      let w = (good_enter k a (no_records 0)).went r s q.0.0 q.0.1 q.1 in
      record {
        grows = λ i h. rw z at (w.grows i h);
        keeps = λ d v. rw z at (w.keeps d v);
        longer = rw z at w.longer;
        fits = λ q. rw z at (w.fits q);
        kept = rw z at w.kept;
        listed = λ i h. rw z at (w.listed i h);
        other = λ r' lim c.
            let c' : Agree r r' q.0.1 = rw z c in
            let p : ◌≡◌ {A = Result Stop (Unit {0} × State)} (ok (tt, lending lim q.0.1)) (ok (x, lending lim s')) = (λ i. ok (tt, lending lim (z i))) in
            rw (← enter_head k a (no_records 0) r r' s q.0.0 q.0.1 q.1 c') (both_then _ _ (w.other r' lim c') (on p p));
      };
}

pub good_walk_text_like : (a : ℕ) → Good Any (walk_text_like a)
unfolding walk_text_like
good_walk_text_like a = good_choose Any (eqb a 0) _ _ (good_pure tt) (good_once UT a tt _ (good_sized (Ready a) _ (λ n.
    good_choose (Ready a) _ _ _ (good_choose (Ready a) _ _ _ (good_enter_text a) (good_weaken (Ready a) _ (good_pure tt))) (good_stop (Ready a) UT a (refusal 7 a a 24)))))

pub good_walk_source : (a : ℕ) → Good Any (walk_source a)
unfolding walk_source
good_walk_source a = search (shapes, good_walk_text_like) depth 12

pub good_walk_conversion : (ch a : ℕ) → Good Any (walk_conversion ch a)
unfolding walk_conversion
good_walk_conversion ch a = search shapes depth 12

pub good_record_data_block : (k : Kind) (a : ℕ) (h : RecordLayout) → Good Any (record_data_block k a h)
unfolding record_data_block
good_record_data_block k a h = search shapes depth 12

pub good_record_unknown_block : (a : ℕ) → Good Any (record_unknown_block a)
unfolding record_unknown_block
good_record_unknown_block a = good_once UD a tt _ (good_sized (Ready a) _ (λ n. good_choose (Ready a) (leb (a + 24) n) _ _
    (search shapes depth 12) (good_weaken (Ready a) _ (good_pure tt))))

pub good_walk_data_block : (h : RecordLayout) (l : Link) → Good Any (walk_data_block h l)
unfolding walk_data_block
good_walk_data_block h l = search (shapes, good_record_data_block, good_record_unknown_block) depth 12

pub good_walk_data_list : (f : Link → Act (Unit {0})) → ((l : Link) → Good Any (f l)) → (a : ℕ) → Good Any (walk_data_list f a)
unfolding walk_data_list
good_walk_data_list f g a = search (shapes, g) depth 12

pub good_list_too_deep : (a : ℕ) → Good Any (list_too_deep a)
unfolding list_too_deep
good_list_too_deep a = search shapes depth 12

pub good_walk_data_region : (d : ℕ) (h : RecordLayout) (l : Link) → Good Any (walk_data_region d h l)
unfolding walk_data_region
good_walk_data_region zero h l = search (shapes, good_walk_data_block, good_list_too_deep) depth 12
good_walk_data_region (suc d) h l =
    let ih : (l : Link) → Good Any (walk_data_region d h l) = good_walk_data_region d h in
    search (shapes, good_walk_data_block, good_walk_data_list, ih) depth 12

pub good_walk_channel : (a : ℕ) (u : Unit {0}) → Good Any (walk_channel a u)
unfolding walk_channel
good_walk_channel a u = search (shapes, good_walk_text_like, good_walk_source, good_walk_conversion, good_walk_data_region) depth 20

pub good_walk_channel_group : (fuel rid a : ℕ) (got : Handed) → Good Any (walk_channel_group fuel rid a got)
unfolding walk_channel_group
good_walk_channel_group fuel rid a got = search (shapes, good_walk_text_like, good_walk_source, good_walk_channel) depth 20

pub good_walk_data_group : (fuel a : ℕ) (u : Unit {0}) → Good Any (walk_data_group fuel a u)
unfolding walk_data_group
good_walk_data_group fuel a u = search (shapes, good_walk_text_like, good_walk_channel_group, good_walk_data_region) depth 20

good_walk_from_header : (fuel : ℕ) (b : Block) → Good Any (walk_from_header fuel b)
unfolding walk_from_header
good_walk_from_header fuel b = search (shapes, good_walk_text_like, good_walk_data_group) depth 20

pub good_walk_header : (fuel : ℕ) → Good Any (walk_header fuel)
unfolding walk_header
good_walk_header fuel = search (shapes, good_walk_from_header) depth 12

pub good_walk_identification : Good Any walk_identification
unfolding walk_identification
good_walk_identification = search shapes depth 12

pub walk_good : (fuel : ℕ) → Good Any (walk_identification >> walk_header fuel)
walk_good fuel = good_then Any walk_identification (walk_header fuel) good_walk_identification (good_walk_header fuel)

-- Demand 3: the walk of another recording that agrees on the read bytes
pub walk_again : (lim : Limits) (r r' : List ℕ) (s : State) → walk r (start lim) ≡ ok (tt, s) → Agree r r' s → walk r' (start lim) ≡ ok (tt, s)
unfolding walk start
walk_again lim r r' s e c =
    again (walk_identification >> walk_header lim.visited) r (start lim) tt s ((walk_good lim.visited).went r (start lim) tt s e) e r' c

start_inv : (lim : Limits) (r : List ℕ) → Inv r (start lim)
unfolding start elem row_links
start_inv lim r = record { known = λ x h. h; apart = tt; tidy = tt; table = refl; placed = tt; readable = tt }

pub walk_inv : (lim : Limits) (r : List ℕ) (s : State) → walk r (start lim) ≡ ok (tt, s) → Inv r s
unfolding walk start
walk_inv lim r s e = ((walk_good lim.visited).went r (start lim) tt s e).keeps tt (start_inv lim r)

-- the ID is listed; its 64 bytes lie inside the recording and are read
module _ (r : List ℕ) (lim : Limits) (s : State) (e : walk_identification r (start lim) ≡ ok (tt, s)) where
  id_entered : (p : State) × (x : Block) × (enter ID 0 (no_records 0) r p ≡ ok (x, s))
  unfolding walk_identification once choose start elem ◌>>◌ pure
  id_entered =
      let p = and_then_ok (visit ID 0 r (start lim)) _ (tt {0}, s) e in
      let q = and_then_ok (enter ID 0 (no_records 0) r p.0.1) _ (tt {0}, s) p.2 in
      let z : q.0.1 ≡ s = (ok_both tt tt q.0.1 s q.2).1 in
      (p.0.1, q.0.0, q.1 ∙ ap (λ (t : State). ok (q.0.0, t)) z)

  id_len : read_len ID r 0 ≡ 64
  unfolding read_len shape rest is
  id_len = refl

  id_listed : elem 0 (offs s.rows) ≡ true
  id_listed = let p = id_entered in enter_listed ID 0 (no_records 0) r p.0 p.1 s p.2

  id_whole : 64 ≤ length r
  id_whole = let p = id_entered in omega (arith, id_len, enter_whole ID 0 (no_records 0) r p.0 p.1 s p.2)

  id_reads : (i : ℕ) → i < 64 → Reads r s i
  id_reads i l = let p = id_entered in enter_reads ID 0 (no_records 0) r p.0 p.1 s p.2 i (omega arith) (omega (arith, id_len))

module _ (lim : Limits) (r : List ℕ) (s : State) (e : walk r (start lim) ≡ ok (tt, s)) where
  after_id : (p : State) × (walk_identification r (start lim) ≡ ok (tt, p)) × (walk_header lim.visited r p ≡ ok (tt, s))
  unfolding walk ◌>>◌ start
  after_id = let p = and_then_ok (walk_identification r (start lim)) _ (tt {0}, s) e in (p.0.1, p.1, p.2)

  pub walk_id : elem 0 (offs s.rows) ≡ true
  walk_id = let p = after_id in ((good_walk_header lim.visited).went r p.0 tt s p.2).listed 0 (id_listed r lim p.0 p.1)

  pub walk_id_whole : 64 ≤ length r
  walk_id_whole = let p = after_id in id_whole r lim p.0 p.1

  pub walk_id_reads : (i : ℕ) → i < 64 → Reads r s i
  walk_id_reads i l = let p = after_id in ((good_walk_header lim.visited).went r p.0 tt s p.2).grows i (id_reads r lim p.0 p.1 i l)
