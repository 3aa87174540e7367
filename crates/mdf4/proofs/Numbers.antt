-- The numbers of the refusals: all that the walk, the gaps and the texts refuse with is up to 15, so 16 is left to what an entry asks
-- besides (document 02, order 4).
use mathlib.Core.Path.{◌≡◌, refl}
use mathlib.Core.Bool.{Bool, true, false, cond}
use mathlib.Core.List.{List, [], ◌∷◌}
use Prim.Native.Nat.{ℕ, zero, suc, ◌+◌, ◌-◌, ◌*◌, ◌^◌, ◌≤◌}
use native.Mathlib.Omega.{arith}
use lib.Dec.{ltb, eqb}
use lib.ListN.{length}
use Rattle.utf8.specs.Utf8.{between}
use Rattle.mdf4.specs.Bytes.{bytes}
use Rattle.mdf4.specs.Act.{Refusal, refusal, Result, Out, ok, err, and_then, check, Stop, Kind, ID, CN, Row, Link, State, Limits, Act, pure, stop, raise, reason, ◌>>=◌, ◌>>◌, choose, sized, elem, seen, visit, once, chain, following, by_link, each_link}
use Rattle.mdf4.specs.Kinds.{block_len, is, RecordLayout, no_records, read_of, read_block, name_link, name_is_text, name_head, name_check, name_ok}
use Rattle.mdf4.specs.Version.{number, numeral, parse_u16, parse_minor, version}
use Rattle.mdf4.specs.Walk.{content_ok, targets_ok, after_reading, list_block, enter, text_kind, enter_text, walk_text_like, walk_source, walk_conversion, record_data_block, record_unknown_block, walk_data_block, walk_data_list, list_too_deep, walk_data_region, walk_channel, walk_channel_group, walk_data_group, walk_from_header, walk_header, walk_identification, start, walk, Handed}
use Rattle.mdf4.specs.Layout.{Layout, layout_of, walk_state, gaps_fitted, layout_if}
use Rattle.mdf4.specs.Tree.{Edge, root, Printed, Child, max_levels, before, render_children, node_by, render_tree_node, root_by, roots, to_tree}
use Rattle.mdf4.specs.Answers.{Lent, Made, exit, room, fitted}
use Rattle.mdf4.proofs.Results.{never}

-- an answer whose refusals have a number up to 15
pub record Low {A : Type 0} (m : Out A) : Type 0 where
  pub number : (e : Refusal) → m ≡ err e → e.number ≤ 15

pub low_ok : {A : Type 0} (x : A) → Low (ok x)
low_ok x = record { number = λ e q. never q }

pub low_err : {A : Type 0} (e : Refusal) → e.number ≤ 15 → Low {A = A} (err e)
low_err e h = record { number = λ z q. let p : e ≡ z = cc in rw p at h }

pub low_check : (b : Bool) (e : Refusal) → e.number ≤ 15 → Low (check b e)
unfolding check
low_check true e h = low_ok tt
low_check false e h = low_err e h

pub low_and_then : {A B : Type 0} (m : Out A) (f : A → Out B) → Low m → ((a : A) → Low (f a)) → Low (and_then m f)
unfolding and_then
low_and_then (ok a) f l k = k a
low_and_then (err x) f l k = low_err x (l.number x refl)

low_cond : {A : Type 0} (b : Bool) (m n : Out A) → Low m → Low n → Low (cond b m n)
low_cond true m n l k = l
low_cond false m n l k = k

-- the version
module _ (e : Refusal) (h : e.number ≤ 15) where
  low_number : (sum : ℕ) (s : List ℕ) → Low (number e sum s)
  unfolding number
  low_number sum [] = low_ok sum
  low_number sum (b ∷ s) = low_cond (between 48 57 b) _ _ (low_cond (ltb (sum * 10 + (b - 48)) (2 ^ 16)) _ _ (low_number (sum * 10 + (b - 48)) s) (low_err e h)) (low_err e h)

  low_numeral : (s : List ℕ) → Low (numeral e s)
  unfolding numeral
  low_numeral [] = low_err e h
  low_numeral (b ∷ s) = low_number 0 (b ∷ s)

  low_parse_u16 : (s : List ℕ) → Low (parse_u16 e s)
  unfolding parse_u16
  low_parse_u16 [] = low_err e h
  low_parse_u16 (b ∷ s) = low_cond (eqb b 43) _ _ (low_numeral s) (low_numeral (b ∷ s))

  low_parse_minor : (s : List ℕ) → Low (parse_minor e s)
  unfolding parse_minor
  low_parse_minor [] = low_ok 0
  low_parse_minor (b ∷ s) = low_parse_u16 _

low_version : (v : List ℕ) → Low (version v)
unfolding version
low_version v =
    low_and_then _ _ (low_check _ _ (omega arith)) (λ u.
    low_and_then _ _ (low_parse_u16 _ (omega arith) _) (λ major.
    low_and_then _ _ (low_parse_minor _ (omega arith) _) (λ minor.
    low_and_then _ _ (low_check _ _ (omega arith)) (λ u.
    low_and_then _ _ (low_check _ _ (omega arith)) (λ u.
    low_ok _)))))

-- a block listed
low_read_block : (k : Kind) (r : List ℕ) (a : ℕ) → Low (read_block k r a)
unfolding read_block read_of
low_read_block k r a =
    low_and_then _ _ (low_check _ _ (omega arith)) (λ u.
    low_and_then _ _ (low_check _ _ (omega arith)) (λ u.
    low_and_then _ _ (low_check _ _ (omega arith)) (λ u.
    low_and_then _ _ (low_check _ _ (omega arith)) (λ u.
    low_and_then _ _ (low_check _ _ (omega arith)) (λ u.
    low_ok _)))))

low_content_ok : (k : Kind) (o : List ℕ) → Low (content_ok k o)
unfolding content_ok
low_content_ok k o = low_cond (is k ID) _ _ (low_and_then _ _ (low_check _ _ (omega arith)) (λ u. low_and_then _ _ (low_version _) (λ n. low_ok tt))) (low_ok tt)

low_targets_ok : (ts : List ℕ) → Low (targets_ok ts)
unfolding targets_ok
low_targets_ok [] = low_ok tt
low_targets_ok (t ∷ ts) = low_and_then _ _ (low_check _ _ (omega arith)) (λ u. low_targets_ok ts)

low_name_check : (len : ℕ) (l : Link) (h : List ℕ) → Low (name_check len l h)
unfolding name_check
low_name_check len l h =
    low_and_then _ _ (low_check _ _ (omega arith)) (λ u.
    low_cond (name_is_text len l) _ _ (low_check _ (refusal 7 l.target l.target (block_len h)) (omega arith)) (low_ok tt))

low_name_ok : (k : Kind) (r : List ℕ) (ls : List Link) → Low (name_ok k r ls)
unfolding name_ok
low_name_ok k r ls = low_cond (is k CN) _ _ (low_name_check (length r) (name_link ls) (name_head r (name_link ls))) (low_ok tt)

low_after_reading : (k : Kind) (a : ℕ) (h : RecordLayout) (s : State) (o : List ℕ) (ls : List Link) (name : Out (Unit {0})) → Low name → Low (after_reading k a h s o ls name)
unfolding after_reading
low_after_reading k a h s o ls name l =
    low_and_then _ _ (low_content_ok k o) (λ u.
    low_and_then _ _ l (λ u.
    low_and_then _ _ (low_targets_ok _) (λ u.
    low_and_then _ _ (low_check _ _ (omega arith)) (λ u.
    low_and_then _ _ (low_check _ _ (omega arith)) (λ u.
    low_and_then _ _ (low_check _ _ (omega arith)) (λ u.
    low_ok _))))))

low_list_block : (k : Kind) (a : ℕ) (h : RecordLayout) (r : List ℕ) (s : State) → Low (list_block k a h r s)
unfolding list_block
low_list_block k a h r s = low_and_then _ _ (low_read_block k r a) (λ o. low_after_reading k a h s o _ _ (low_name_ok k r _))

-- a step of the walk that refuses so
record LowStep {A : Type 0} (m : Act A) : Type 0 where
  at : (r : List ℕ) (s : State) → Low (reason (m r s))

low_raise : {A : Type 0} (k : Kind) (a : ℕ) (s : State) (m : Out A) → Low m → Low (reason (raise k a s m))
unfolding raise reason
low_raise k a s (ok x) l = l
low_raise k a s (err e) l = l

low_reason : {A B : Type 0} (m : Result Stop A) (f : A → Result Stop B) → Low (reason m) → ((a : A) → Low (reason (f a))) → Low (reason (and_then m f))
unfolding reason and_then
low_reason (ok a) f l k = k a
low_reason (err z) f l k = low_err z.why (l.number z.why refl)

low_pure : {A : Type 0} (a : A) → LowStep (pure a)
unfolding pure reason
low_pure a = record { at = λ r s. low_ok (a, s) }

low_stop : {A : Type 0} (k : Kind) (a : ℕ) (e : Refusal) → e.number ≤ 15 → LowStep {A = A} (stop k a e)
unfolding stop reason
low_stop k a e h = record { at = λ r s. low_err e h }

stop_7 : {A : Type 0} (k : Kind) (a p x y : ℕ) → LowStep {A = A} (stop k a (refusal 7 p x y))
stop_7 k a p x y = low_stop k a (refusal 7 p x y) (omega arith)

stop_9 : {A : Type 0} (k : Kind) (a p x y : ℕ) → LowStep {A = A} (stop k a (refusal 9 p x y))
stop_9 k a p x y = low_stop k a (refusal 9 p x y) (omega arith)

stop_15 : {A : Type 0} (k : Kind) (a p x y : ℕ) → LowStep {A = A} (stop k a (refusal 15 p x y))
stop_15 k a p x y = low_stop k a (refusal 15 p x y) (omega arith)

low_bind : {A B : Type 0} (m : Act A) (f : A → Act B) → LowStep m → ((a : A) → LowStep (f a)) → LowStep (m >>= f)
unfolding ◌>>=◌
low_bind m f l k = record { at = λ r s. low_reason (m r s) _ (l.at r s) (λ p. (k p.0).at r p.1) }

low_then : {A B : Type 0} (m : Act A) (n : Act B) → LowStep m → LowStep n → LowStep (m >> n)
unfolding ◌>>◌
low_then m n l k = record { at = λ r s. low_reason (m r s) _ (l.at r s) (λ p. k.at r p.1) }

low_choose : {A : Type 0} (b : Bool) (m n : Act A) → LowStep m → LowStep n → LowStep (choose b m n)
unfolding choose
low_choose true m n l k = l
low_choose false m n l k = k

low_sized : {A : Type 0} (f : ℕ → Act A) → ((n : ℕ) → LowStep (f n)) → LowStep (sized f)
unfolding sized
low_sized f l = record { at = λ r s. (l (length r)).at r s }

low_seen : {A : Type 0} (a : ℕ) (f : Bool → Act A) → ((b : Bool) → LowStep (f b)) → LowStep (seen a f)
unfolding seen
low_seen a f l = record { at = λ r s. (l (elem a s.visited)).at r s }

low_full : (b : Bool) (z : Stop) → z.why.number ≤ 15 → Low (reason (check b z))
unfolding check reason
low_full true z h = low_ok tt
low_full false z h = low_err z.why h

low_visit : (k : Kind) (a : ℕ) → LowStep (visit k a)
unfolding visit reason
low_visit k a = record { at = λ r s. low_reason _ _ (low_full _ _ (omega arith)) (λ u. low_ok _) }

low_once : {A : Type 0} (k : Kind) (a : ℕ) (x : A) (m : Act A) → LowStep m → LowStep (once k a x m)
unfolding once
low_once k a x m l = record { at = λ r s. (low_choose (elem a s.visited) (pure x) (visit k a >> m) (low_pure x) (low_then (visit k a) m (low_visit k a) l)).at r s }

low_chain : {B : Type 0} (n : ℕ) (f : ℕ → B → Act (ℕ × B)) → ((a : ℕ) (b : B) → LowStep (f a b)) → (a : ℕ) (b : B) → LowStep (chain n f a b)
unfolding chain
low_chain zero f l a b = low_choose (eqb a 0) _ _ (low_pure b) (low_bind _ _ (l a b) (λ p. low_pure p.1))
low_chain (suc n) f l a b = low_choose (eqb a 0) _ _ (low_pure b) (low_bind _ _ (l a b) (λ p. low_chain n f l p.0 p.1))

low_by_link : {A : Type 0} (a n : ℕ) (m : Act A) → LowStep m → LowStep (by_link a n m)
unfolding by_link
low_by_link a n m l = record { at = λ r s. l.at r (following a n s) }

low_each_link : (a i : ℕ) (f : Link → Act (Unit {0})) → ((l : Link) → LowStep (f l)) → (ls : List Link) → LowStep (each_link a i f ls)
unfolding each_link
low_each_link a i f g [] = low_pure tt
low_each_link a i f g (l ∷ ls) = low_then (by_link a i (f l)) (each_link a (suc i) f ls) (low_by_link a i (f l) (g l)) (low_each_link a (suc i) f g ls)

low_enter : (k : Kind) (a : ℕ) (h : RecordLayout) → LowStep (enter k a h)
unfolding enter
low_enter k a h = record { at = λ r s. low_raise k a s (list_block k a h r s) (low_list_block k a h r s) }

ruleset low_steps = (low_pure, stop_7, stop_9, stop_15, low_bind, low_then, low_choose, low_sized, low_seen, low_chain, low_by_link, low_each_link, low_once, low_enter)

-- the walk, function by function
low_enter_text : (a : ℕ) → LowStep (enter_text a)
unfolding enter_text reason
low_enter_text a = record { at = λ r s. low_reason _ _ ((low_enter (text_kind (bytes r a 24)) a (no_records 0)).at r s) (λ p. low_ok _) }

low_walk_text_like : (a : ℕ) → LowStep (walk_text_like a)
unfolding walk_text_like
low_walk_text_like a = search (low_steps, low_enter_text) depth 12

low_walk_source : (a : ℕ) → LowStep (walk_source a)
unfolding walk_source
low_walk_source a = search (low_steps, low_walk_text_like) depth 12

low_walk_conversion : (cn a : ℕ) → LowStep (walk_conversion cn a)
unfolding walk_conversion
low_walk_conversion cn a = search low_steps depth 12

low_record_data_block : (k : Kind) (a : ℕ) (h : RecordLayout) → LowStep (record_data_block k a h)
unfolding record_data_block
low_record_data_block k a h = search low_steps depth 12

low_record_unknown_block : (a : ℕ) → LowStep (record_unknown_block a)
unfolding record_unknown_block
low_record_unknown_block a = search low_steps depth 12

low_walk_data_block : (h : RecordLayout) (l : Link) → LowStep (walk_data_block h l)
unfolding walk_data_block
low_walk_data_block h l = search (low_steps, low_record_data_block, low_record_unknown_block) depth 12

low_walk_data_list : (f : Link → Act (Unit {0})) → ((l : Link) → LowStep (f l)) → (a : ℕ) → LowStep (walk_data_list f a)
unfolding walk_data_list
low_walk_data_list f g a = search (low_steps, g) depth 12

low_list_too_deep : (a : ℕ) → LowStep (list_too_deep a)
unfolding list_too_deep
low_list_too_deep a = search low_steps depth 12

low_walk_data_region : (d : ℕ) (h : RecordLayout) (l : Link) → LowStep (walk_data_region d h l)
unfolding walk_data_region
low_walk_data_region zero h l = search (low_steps, low_walk_data_block, low_list_too_deep) depth 12
low_walk_data_region (suc d) h l =
    let ih : (l : Link) → LowStep (walk_data_region d h l) = low_walk_data_region d h in
    search (low_steps, low_walk_data_block, low_walk_data_list, ih) depth 12

low_walk_channel : (a : ℕ) (u : Unit {0}) → LowStep (walk_channel a u)
unfolding walk_channel
low_walk_channel a u = search (low_steps, low_walk_text_like, low_walk_source, low_walk_conversion, low_walk_data_region) depth 20

low_walk_channel_group : (fuel id a : ℕ) (got : Handed) → LowStep (walk_channel_group fuel id a got)
unfolding walk_channel_group
low_walk_channel_group fuel id a got = search (low_steps, low_walk_text_like, low_walk_source, low_walk_channel) depth 20

low_walk_data_group : (fuel a : ℕ) (u : Unit {0}) → LowStep (walk_data_group fuel a u)
unfolding walk_data_group
low_walk_data_group fuel a u = search (low_steps, low_walk_text_like, low_walk_channel_group, low_walk_data_region) depth 20

low_walk_header : (fuel : ℕ) → LowStep (walk_header fuel)
unfolding walk_header walk_from_header
low_walk_header fuel = search (low_steps, low_walk_text_like, low_walk_data_group) depth 20

low_walk_identification : LowStep walk_identification
unfolding walk_identification
low_walk_identification = search low_steps depth 12

pub low_walk_state : (lim : Limits) (r : List ℕ) → Low (walk_state lim r)
unfolding walk_state walk
low_walk_state lim r =
    low_and_then _ _ ((low_then walk_identification (walk_header (start lim).lent.visited) low_walk_identification (low_walk_header (start lim).lent.visited)).at r (start lim)) (λ p. low_ok p.1)

-- behind the walk
pub low_gaps_fitted : (lent : ℕ) (y : Layout) → Low (gaps_fitted lent y)
unfolding gaps_fitted
low_gaps_fitted lent y = low_and_then _ _ (low_check _ _ (omega arith)) (λ u. low_ok y)

pub low_layout_if : (asked : Out (Unit {0})) → Low asked → (lim : Limits) (lent : ℕ) (r : List ℕ) → Low (layout_if asked lim lent r)
unfolding layout_if
low_layout_if asked l lim lent r = low_and_then _ _ (low_walk_state lim r) (λ s. low_and_then _ _ l (λ u. low_gaps_fitted lent (layout_of r s)))

pub low_room : (n k : ℕ) → Low (room n k)
unfolding room
low_room n k = low_check _ _ (omega arith)

pub low_fitted : (n : ℕ) (y : Layout) (v t : List ℕ) → Low (fitted n y v t)
unfolding fitted
low_fitted n y v t = low_and_then _ _ (low_check _ _ (omega arith)) (λ u. low_ok _)

-- the tree: 15
low_before : (t : List ℕ) (m : Out Printed) → Low m → Low (before t m)
unfolding before
low_before t (ok p) l = low_ok _
low_before t (err e) l = low_err e (l.number e refl)

abbrev LowNode : (Edge → Row → List ℕ → Out Printed) → Type 0
LowNode f = (s : Edge) (w : Row) (v : List ℕ) → Low (f s w v)

low_children : (f : Edge → Row → List ℕ → Out Printed) → LowNode f → (prefix : List Bool) (k : Kind) (cs : List Child) (v : List ℕ) → Low (render_children f prefix k cs v)
unfolding render_children
low_children f l prefix k [] v = low_ok _
low_children f l prefix k (c ∷ cs) v = low_and_then _ _ (l _ c.row v) (λ p. low_before p.0 _ (low_children f l prefix k cs p.1))

module _ (r : List ℕ) (y : Layout) where
  low_node_by : (b : Bool) (f : Edge → Row → List ℕ → Out Printed) → LowNode f → LowNode (node_by b f r y)
  unfolding node_by
  low_node_by true f l s w v = low_ok _
  low_node_by false f l s w v = low_before _ _ (low_children f l _ w.kind _ (w.off ∷ v))

  low_node : (levels : ℕ) → LowNode (render_tree_node r y levels)
  unfolding render_tree_node
  low_node zero s w v = low_err _ (omega arith)
  low_node (suc levels) s w v = low_node_by (elem w.off v) (render_tree_node r y levels) (low_node levels) s w v

  low_root_by : (b : Bool) (w : Row) (v : List ℕ) → Low (root_by b r y w v)
  unfolding root_by
  low_root_by true w v = low_ok _
  low_root_by false w v = low_node max_levels root w v

  low_roots : (ws : List Row) (v : List ℕ) → Low (roots r y ws v)
  unfolding roots
  low_roots [] v = low_ok _
  low_roots (w ∷ ws) v = low_and_then _ _ (low_root_by (elem w.off v) w v) (λ p. low_before p.0 _ (low_roots ws p.1))

  pub low_to_tree : Low (to_tree r y)
  unfolding to_tree
  low_to_tree = low_roots y.blocks []

-- what an entry answers then
pub low_exit : (n : Lent) (m : Out Made) → Low m → (z : Refusal) → (exit n m).answer ≡ err z → z.number ≤ 15
unfolding exit
low_exit n (ok x) l z e = never e
low_exit n (err e) l z q = let p : e ≡ z = cc in rw p at (l.number e refl)
