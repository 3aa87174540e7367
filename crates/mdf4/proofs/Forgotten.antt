-- The link being followed is only written down: a walk that forgets it does all else alike. Rows and states are compared with the
-- two words of the link taken off; answers and refusals are the same.
use mathlib.Core.Path.{◌≡◌, refl, sym, ap, ◌∙◌}
use mathlib.Core.Bool.{Bool, true, false, cond}
use mathlib.Core.List.{List, [], ◌∷◌, ◌++◌, map}
use Prim.Native.Nat.{ℕ, zero, suc}
use lib.Dec.{leb, ltb, eqb}
use lib.ListN.{length, take, drop, length-map}
use Rattle.mdf4.specs.Bytes.{Range, bytes, concat_map}
use Rattle.mdf4.specs.Act.{Refusal, refusal, Result, Out, ok, err, and_then, check, Kind, ID, HD, DG, CG, CN, SI, TX, MD, DT, SD, DL, UT, UD, Row, Link, State, Stop, stopped, Act, choose, pure, stop, raise, ◌>>=◌, ◌>>◌, sized, elem, marked, visit, once, seen, chain, following, by_link, each_link}
use Rattle.mdf4.specs.Kinds.{RecordLayout, no_records, read_block, shape}
use Rattle.mdf4.specs.Walk.{content_ok, targets_ok, index_of, Block, row_of, push, after_reading, list_block, enter, text_kind, enter_text, walk_text_like, walk_source, walk_conversion, record_data_block, record_unknown_block, walk_data_block, walk_data_list, list_too_deep, walk_data_region, walk_channel, walk_channel_group, walk_data_group, walk_from_header, walk_header, walk_identification, walk, Handed}
use Rattle.mdf4.specs.Reads.{row_ranges, read_ranges, kept_ranges, spared_ranges}
use Rattle.mdf4.specs.Layout.{insert, sort, extent, Layout, layout_of}
use Rattle.mdf4.specs.Clear.{clear_ranges}
use Rattle.mdf4.specs.Answers.{row_words}
use Rattle.mdf4.specs.Describe.{payload, describe_of, records, extra_of, block_bytes, row_name, describe, extra_line}
use Rattle.mdf4.specs.Listing.{row_lines, links_of, block_links, to_text}
use Rattle.mdf4.specs.Tree.{Edge, root, edge, child_prefix, node_line, Child, child_at, child_of, children, Printed, none_left, before, render_children, node_by, max_levels, render_tree_node, root_by, roots, to_tree}
use Rattle.mdf4.proofs.Results.{ok_both, never}

unfoldable pub unlinked : Row → Row
unlinked w = record {
  off = w.off;
  end = w.end;
  size = w.size;
  mark = w.mark;
  kind = w.kind;
  index = w.index;
  first_link = w.first_link;
  link_count = w.link_count;
  record_size = w.record_size;
  invalidation_bytes = w.invalidation_bytes;
  record_id_len = w.record_id_len;
  from_block = 0;
  from_link = 0;
}

unfoldable pub forget : State → State
forget s = record {
  visited = s.visited;
  rows = map unlinked s.rows;
  links = s.links;
  dg_counter = s.dg_counter;
  cg_counter = s.cg_counter;
  cn_counter = s.cn_counter;
  from_block = 0;
  from_link = 0;
  lent = s.lent;
}

-- of a step's answer
abbrev pub forgot : {A : Type 0} → Result Stop (A × State) → Result Stop (A × State)
forgot (ok p) = ok (p.0, forget p.1)
forgot (err z) = err (record { why = z.why; state = forget z.state; kind = z.kind; at = z.at })

-- a step that does not read the link being followed
pub record Blind {A : Type 0} (m : Act A) : Type 0 where
  pub same : (r : List ℕ) (s : State) → forgot (m r s) ≡ forgot (m r (forget s))

twice : (ws : List Row) → map unlinked (map unlinked ws) ≡ map unlinked ws
unfolding unlinked
twice [] = refl
twice (w ∷ ws) = rw (twice ws)

forget_twice : (s : State) → forget s ≡ forget (forget s)
unfolding forget
forget_twice s = rw (twice s.rows)

marked_twice : (a : ℕ) (s : State) → forget (marked a s) ≡ forget (marked a (forget s))
unfolding forget marked
marked_twice a s = rw (twice s.rows)

unlinked_snoc : (ws vs : List Row) (w v : Row) → map unlinked ws ≡ map unlinked vs → unlinked w ≡ unlinked v → map unlinked (ws ++ w ∷ []) ≡ map unlinked (vs ++ v ∷ [])
unlinked_snoc ws vs w v p q = snoc ws w ∙ rw (p, q) (sym (snoc vs v))
  where
    snoc : (ws : List Row) (w : Row) → map unlinked (ws ++ w ∷ []) ≡ map unlinked ws ++ unlinked w ∷ []
    snoc [] w = refl
    snoc (v ∷ ws) w = rw (snoc ws w)

-- following a link leaves all else as it is
pub by_link_forgotten : {A : Type 0} (a n : ℕ) (m : Act A) → Blind m → (r : List ℕ) (s : State) → forgot (by_link a n m r s) ≡ forgot (m r s)
unfolding by_link following forget
by_link_forgotten a n m b r s = b.same r (following a n s) ∙ sym (b.same r s)

pub blind_by_link : {A : Type 0} (a n : ℕ) (m : Act A) → Blind m → Blind (by_link a n m)
blind_by_link a n m b = record { same = λ r s. by_link_forgotten a n m b r s ∙ b.same r s ∙ sym (by_link_forgotten a n m b r (forget s)) }

pub blind_pure : {A : Type 0} (a : A) → Blind (pure a)
unfolding pure
blind_pure a = record { same = λ r s. rw (← forget_twice s) }

pub blind_stop : {A : Type 0} (k : Kind) (a : ℕ) (e : Refusal) → Blind {A = A} (stop k a e)
unfolding stop
blind_stop k a e = record { same = λ r s. rw (← forget_twice s) }

pub blind_choose : {A : Type 0} (b : Bool) (m n : Act A) → Blind m → Blind n → Blind (choose b m n)
unfolding choose
blind_choose true m n g k = g
blind_choose false m n g k = k

-- two answers that are alike go on alike
on : {A B : Type 0} (f : A → Act B) (r : List ℕ) → ((a : A) → Blind (f a)) → (x y : Result Stop (A × State)) → forgot x ≡ forgot y
    → forgot (and_then x (λ p. f p.0 r p.1)) ≡ forgot (and_then y (λ p. f p.0 r p.1))
unfolding and_then
on f r g (ok p) (ok q) e =
    let z = ok_both p.0 q.0 (forget p.1) (forget q.1) e in
    (g p.0).same r p.1 ∙ rw (z.0, z.1) (sym ((g q.0).same r q.1))
on f r g (ok p) (err z) e = never e
on f r g (err z) (ok q) e = never (sym e)
on f r g (err z) (err y) e = cc

pub blind_bind : {A B : Type 0} (m : Act A) (f : A → Act B) → Blind m → ((a : A) → Blind (f a)) → Blind (m >>= f)
unfolding ◌>>=◌
blind_bind m f g k = record { same = λ r s. on f r k (m r s) (m r (forget s)) (g.same r s) }

pub blind_then : {A B : Type 0} (m : Act A) (n : Act B) → Blind m → Blind n → Blind (m >> n)
unfolding ◌>>=◌ ◌>>◌
blind_then m n g k = blind_bind m (λ a. n) g (λ a. k)

pub blind_sized : {A : Type 0} (f : ℕ → Act A) → ((n : ℕ) → Blind (f n)) → Blind (sized f)
unfolding sized
blind_sized f g = record { same = λ r s. (g (length r)).same r s }

pub blind_seen : {A : Type 0} (a : ℕ) (f : Bool → Act A) → ((b : Bool) → Blind (f b)) → Blind (seen a f)
unfolding seen forget
blind_seen a f g = record { same = λ r s. (g (elem a s.visited)).same r s }

-- a test that refuses, in two states that are alike
alike : {A : Type 0} (b : Bool) (e : Refusal) (k : Kind) (a : ℕ) (x : A) (s t u v : State) → forget s ≡ forget t → forget u ≡ forget v
    → forgot (and_then (check b (stopped e s k a)) (λ y. ok (x, u))) ≡ forgot (and_then (check b (stopped e t k a)) (λ y. ok (x, v)))
unfolding and_then check
alike true e k a x s t u v p q = rw q
alike false e k a x s t u v p q = rw p

blind_visit : (k : Kind) (a : ℕ) → Blind (visit k a)
unfolding visit forget
blind_visit k a = record {
  same = λ r s. alike (ltb (length s.visited) s.lent.visited) (refusal 10 a s.lent.visited 0) k a tt s (forget s) (marked a s) (marked a (forget s)) (forget_twice s) (marked_twice a s);
}

pub blind_once : {A : Type 0} (k : Kind) (a : ℕ) (x : A) (m : Act A) → Blind m → Blind (once k a x m)
unfolding once forget
blind_once k a x m g = record { same = λ r s. (blind_choose (elem a s.visited) (pure x) (visit k a >> m) (blind_pure x) (blind_then (visit k a) m (blind_visit k a) g)).same r s }

pub blind_chain : {B : Type 0} (n : ℕ) (f : ℕ → B → Act (ℕ × B)) → ((a : ℕ) (b : B) → Blind (f a b)) → (a : ℕ) (b : B) → Blind (chain n f a b)
unfolding chain
blind_chain zero f g a b = blind_choose (eqb a 0) _ _ (blind_pure b) (blind_bind _ _ (g a b) (λ p. blind_pure p.1))
blind_chain (suc n) f g a b = blind_choose (eqb a 0) _ _ (blind_pure b) (blind_bind _ _ (g a b) (λ p. blind_chain n f g p.0 p.1))

pub blind_each_link : (a i : ℕ) (f : Link → Act (Unit {0})) → ((l : Link) → Blind (f l)) → (ls : List Link) → Blind (each_link a i f ls)
unfolding each_link
blind_each_link a i f g [] = blind_pure tt
blind_each_link a i f g (l ∷ ls) = blind_then (by_link a i (f l)) (each_link a (suc i) f ls) (blind_by_link a i (f l) (g l)) (blind_each_link a (suc i) f g ls)

-- a block that is listed
abbrev kept : {A : Type 0} → Out (A × State) → Out (A × State)
kept (ok p) = ok (p.0, forget p.1)
kept (err e) = err e

kept_then : {A B : Type 0} (m : Out A) (f g : A → Out (B × State)) → ((a : A) → kept (f a) ≡ kept (g a)) → kept (and_then m f) ≡ kept (and_then m g)
unfolding and_then
kept_then (ok a) f g h = h a
kept_then (err e) f g h = refl

kept_raise : {A : Type 0} (k : Kind) (a : ℕ) (s t : State) (x y : Out (A × State)) → forget s ≡ forget t → kept x ≡ kept y → forgot (raise k a s x) ≡ forgot (raise k a t y)
unfolding raise
kept_raise k a s t (ok p) (ok q) z e = let u = ok_both p.0 q.0 (forget p.1) (forget q.1) e in rw (u.0, u.1)
kept_raise k a s t (ok p) (err f) z e = never e
kept_raise k a s t (err f) (ok q) z e = never (sym e)
kept_raise k a s t (err f) (err g) z e = let u : f ≡ g = cc in rw (u, z)

module _ (k : Kind) (a : ℕ) (h : RecordLayout) (s : State) (o : List ℕ) (ls : List Link) where
  pushed_twice : forget (push k (row_of k a h s o ls) ls s) ≡ forget (push k (row_of k a h (forget s) o ls) ls (forget s))
  unfolding forget push row_of index_of unlinked
  pushed_twice = rw (unlinked_snoc s.rows (map unlinked s.rows) (row_of k a h s o ls) (row_of k a h (forget s) o ls) (sym (twice s.rows)) refl)

  kept_after : (name : Out (Unit {0})) → kept (after_reading k a h s o ls name) ≡ kept (after_reading k a h (forget s) o ls name)
  unfolding after_reading forget
  kept_after name = rw (length-map s.rows unlinked)
      (kept_then (content_ok k o) _ _ (λ u. kept_then name _ _ (λ u. kept_then (targets_ok ((shape k).targets o)) _ _ (λ u.
      kept_then (check _ _) _ _ (λ u. kept_then (check _ _) _ _ (λ u. kept_then (check _ _) _ _ (λ u. ap (λ (t : State). ok ((o, ls), t)) pushed_twice)))))))

pub blind_enter : (k : Kind) (a : ℕ) (h : RecordLayout) → Blind (enter k a h)
unfolding enter list_block
blind_enter k a h = record {
  same = λ r s. kept_raise k a s (forget s) (list_block k a h r s) (list_block k a h r (forget s)) (forget_twice s) (kept_then (read_block k r a) _ _ (λ o. kept_after k a h s o _ _));
}

ruleset blinds = (blind_pure, blind_stop, blind_bind, blind_then, blind_choose, blind_sized, blind_seen, blind_chain, blind_by_link, blind_each_link, blind_once, blind_enter)

blind_enter_text : (a : ℕ) → Blind (enter_text a)
unfolding enter_text ◌>>◌ pure and_then
blind_enter_text a = record { same = λ r s. (blind_then (enter (text_kind (bytes r a 24)) a (no_records 0)) (pure (tt {0})) (search blinds) (search blinds)).same r s }

pub blind_walk_text_like : (a : ℕ) → Blind (walk_text_like a)
unfolding walk_text_like
blind_walk_text_like a = search (blinds, blind_enter_text) depth 12

pub blind_walk_source : (a : ℕ) → Blind (walk_source a)
unfolding walk_source
blind_walk_source a = search (blinds, blind_walk_text_like) depth 12

pub blind_walk_conversion : (cn a : ℕ) → Blind (walk_conversion cn a)
unfolding walk_conversion
blind_walk_conversion cn a = search blinds depth 12

pub blind_walk_data_block : (h : RecordLayout) (l : Link) → Blind (walk_data_block h l)
unfolding walk_data_block record_data_block record_unknown_block
blind_walk_data_block h l = search blinds depth 20

pub blind_walk_data_region : (d : ℕ) (h : RecordLayout) (l : Link) → Blind (walk_data_region d h l)
unfolding walk_data_region walk_data_list list_too_deep
blind_walk_data_region zero h l = search (blinds, blind_walk_data_block) depth 12
blind_walk_data_region (suc d) h l =
    let ih : (l : Link) → Blind (walk_data_region d h l) = blind_walk_data_region d h in
    search (blinds, blind_walk_data_block, ih) depth 20

pub blind_walk_channel : (a : ℕ) (u : Unit {0}) → Blind (walk_channel a u)
unfolding walk_channel
blind_walk_channel a u = search (blinds, blind_walk_text_like, blind_walk_source, blind_walk_conversion, blind_walk_data_region) depth 20

pub blind_walk_channel_group : (fuel rid a : ℕ) (got : Handed) → Blind (walk_channel_group fuel rid a got)
unfolding walk_channel_group
blind_walk_channel_group fuel rid a got = search (blinds, blind_walk_text_like, blind_walk_source, blind_walk_channel) depth 20

pub blind_walk_data_group : (fuel a : ℕ) (u : Unit {0}) → Blind (walk_data_group fuel a u)
unfolding walk_data_group
blind_walk_data_group fuel a u = search (blinds, blind_walk_text_like, blind_walk_channel_group, blind_walk_data_region) depth 20

pub blind_walk_from_header : (fuel : ℕ) (b : Block) → Blind (walk_from_header fuel b)
unfolding walk_from_header
blind_walk_from_header fuel b = search (blinds, blind_walk_text_like, blind_walk_data_group) depth 20

pub blind_walk : Blind walk
unfolding walk walk_identification walk_header forget
blind_walk = record { same = λ r s. (blind_then walk_identification (walk_header s.lent.visited) (search blinds depth 12) (search (blinds, blind_walk_from_header) depth 12)).same r s }

-- A layout without the two words: its rows by offset and its gaps are those of the state without them. Its spared and clear ranges are
-- the same, and the first twelve words of its rows.
unfoldable pub forgotten : Layout → Layout
forgotten y = record { state = forget y.state; blocks = map unlinked y.blocks; gaps = y.gaps }

concat_unlinked : {A : Type 0} (f : Row → List A) → ((w : Row) → f (unlinked w) ≡ f w) → (ws : List Row) → concat_map f (map unlinked ws) ≡ concat_map f ws
unfolding concat_map
concat_unlinked f h [] = refl
concat_unlinked f h (w ∷ ws) = rw (h w, concat_unlinked f h ws)

insert_unlinked : (w : Row) (vs : List Row) → insert (unlinked w) (map unlinked vs) ≡ map unlinked (insert w vs)
unfolding insert unlinked
insert_unlinked w [] = refl
insert_unlinked w (v ∷ vs) = go (leb w.off v.off) (insert_unlinked w vs)
  where
    go : (b : Bool) → insert (unlinked w) (map unlinked vs) ≡ map unlinked (insert w vs)
        → cond b (unlinked w ∷ unlinked v ∷ map unlinked vs) (unlinked v ∷ insert (unlinked w) (map unlinked vs)) ≡ map unlinked (cond b (w ∷ v ∷ vs) (v ∷ insert w vs))
    go true h = refl
    go false h = ap (λ (us : List Row). unlinked v ∷ us) h

sort_unlinked : (ws : List Row) → sort (map unlinked ws) ≡ map unlinked (sort ws)
unfolding sort
sort_unlinked [] = refl
sort_unlinked (w ∷ ws) = rw (sort_unlinked ws) (insert_unlinked w (sort ws))

extents_unlinked : (ws : List Row) → map extent (map unlinked ws) ≡ map extent ws
unfolding unlinked
extents_unlinked [] = refl
extents_unlinked (w ∷ ws) = ap (λ (ps : List Range). extent w ∷ ps) (extents_unlinked ws)

pub layout_forgotten : (r : List ℕ) (s : State) → layout_of r (forget s) ≡ forgotten (layout_of r s)
unfolding layout_of forget forgotten
layout_forgotten r s = rw (sort_unlinked s.rows, extents_unlinked (sort s.rows))

ranges_unlinked : (r : List ℕ) (w : Row) → row_ranges r (unlinked w) ≡ row_ranges r w
unfolding unlinked
ranges_unlinked r w = refl

pub spared_forgotten : (r : List ℕ) (s : State) → spared_ranges r (forget s) ≡ spared_ranges r s
unfolding spared_ranges read_ranges kept_ranges forget
spared_forgotten r s = rw (concat_unlinked (row_ranges r) (ranges_unlinked r) s.rows)

pub clear_forgotten : (r : List ℕ) (y : Layout) → clear_ranges r (forgotten y) ≡ clear_ranges r y
unfolding clear_ranges forgotten
clear_forgotten r y = rw (spared_forgotten r y.state)

pub words_unlinked : (v : List ℕ) (w : Row) → take 12 (row_words v (unlinked w)) ≡ take 12 (row_words v w)
unfolding row_words unlinked
words_unlinked v w = refl

-- Listing and tree do not read the two words either.
module _ (w : Row) where
  describe_of_unlinked : (k : Kind) (o n : List ℕ) → describe_of k (unlinked w) o n ≡ describe_of k w o n
  unfolding describe_of unlinked payload
  describe_of_unlinked ID o n = refl
  describe_of_unlinked HD o n = refl
  describe_of_unlinked DG o n = refl
  describe_of_unlinked CG o n = refl
  describe_of_unlinked CN o n = refl
  describe_of_unlinked SI o n = refl
  describe_of_unlinked TX o n = refl
  describe_of_unlinked MD o n = refl
  describe_of_unlinked DT o n = refl
  describe_of_unlinked SD o n = refl
  describe_of_unlinked DL o n = refl
  describe_of_unlinked UT o n = refl
  describe_of_unlinked UD o n = refl

  records_unlinked : (b : Bool) → records b (unlinked w) ≡ records b w
  unfolding records unlinked payload
  records_unlinked true = refl
  records_unlinked false = refl

  extra_of_unlinked : (k : Kind) (o : List ℕ) → extra_of k (unlinked w) o ≡ extra_of k w o
  unfolding extra_of
  extra_of_unlinked DT o = unfold unlinked in rw (records_unlinked (ltb 0 w.record_size))
  extra_of_unlinked ID o = refl
  extra_of_unlinked HD o = refl
  extra_of_unlinked DG o = refl
  extra_of_unlinked CG o = refl
  extra_of_unlinked CN o = refl
  extra_of_unlinked SI o = refl
  extra_of_unlinked TX o = refl
  extra_of_unlinked MD o = refl
  extra_of_unlinked SD o = refl
  extra_of_unlinked DL o = refl
  extra_of_unlinked UT o = refl
  extra_of_unlinked UD o = refl

module _ (r : List ℕ) where
  describe_unlinked : (w : Row) → describe r (unlinked w) ≡ describe r w
  unfolding describe block_bytes row_name unlinked
  describe_unlinked w = describe_of_unlinked w w.kind _ _

  extra_unlinked : (w : Row) → extra_line r (unlinked w) ≡ extra_line r w
  unfolding extra_line block_bytes unlinked
  extra_unlinked w = extra_of_unlinked w w.kind _

  row_lines_unlinked : (w : Row) → row_lines r (unlinked w) ≡ row_lines r w
  unfolding row_lines unlinked
  row_lines_unlinked w = rw (describe_unlinked w, extra_unlinked w)

  links_unlinked : (ls : List Link) (w : Row) → block_links r ls (unlinked w) ≡ block_links r ls w
  unfolding block_links links_of unlinked
  links_unlinked ls w = rw (describe_unlinked w)

pub to_text_forgotten : (r : List ℕ) (y : Layout) → to_text r (forgotten y) ≡ to_text r y
unfolding to_text forgotten forget
to_text_forgotten r y = rw (length-map y.blocks unlinked, concat_unlinked (row_lines r) (row_lines_unlinked r) y.blocks, concat_unlinked (block_links r y.state.links) (links_unlinked r y.state.links) y.blocks)

-- the children of a node
unfoldable unlinked_child : Child → Child
unlinked_child c = record { place = c.place; row = unlinked c.row }

child_at_unlinked : (i t : ℕ) (ws : List Row) → child_at i t (map unlinked ws) ≡ map unlinked_child (child_at i t ws)
unfolding child_at unlinked
child_at_unlinked i t [] = refl
child_at_unlinked i t (w ∷ ws) = go (eqb w.off t) (child_at_unlinked i t ws)
  where
    go : (b : Bool) → child_at i t (map unlinked ws) ≡ map unlinked_child (child_at i t ws)
        → cond b (record { place = i; row = unlinked w } ∷ []) (child_at i t (map unlinked ws)) ≡ map unlinked_child (cond b (record { place = i; row = w } ∷ []) (child_at i t ws))
    go true h = unfold unlinked_child in refl
    go false h = h

map_append : (cs ds : List Child) → map unlinked_child (cs ++ ds) ≡ map unlinked_child cs ++ map unlinked_child ds
map_append [] ds = refl
map_append (c ∷ cs) ds = rw (map_append cs ds)

children_unlinked : (i : ℕ) (ls : List Link) (ws : List Row) → children i ls (map unlinked ws) ≡ map unlinked_child (children i ls ws)
unfolding children child_of
children_unlinked i [] ws = refl
children_unlinked i (l ∷ ls) ws = go (eqb l.target 0) (children_unlinked (suc i) ls ws)
  where
    go : (b : Bool) → children (suc i) ls (map unlinked ws) ≡ map unlinked_child (children (suc i) ls ws)
        → cond b [] (child_at i l.target (map unlinked ws)) ++ children (suc i) ls (map unlinked ws) ≡ map unlinked_child (cond b [] (child_at i l.target ws) ++ children (suc i) ls ws)
    go true h = h
    go false h = rw (h, child_at_unlinked i l.target ws) (sym (map_append (child_at i l.target ws) (children (suc i) ls ws)))

none_left_unlinked : (cs : List Child) → none_left (map unlinked_child cs) ≡ none_left cs
unfolding none_left
none_left_unlinked [] = refl
none_left_unlinked (c ∷ cs) = refl

before_then : {A : Type 0} (x y : Out Printed) (f g : Printed → Out A) → x ≡ y → ((p : Printed) → f p ≡ g p) → and_then x f ≡ and_then y g
unfolding and_then
before_then (ok p) y f g e h = rw (← e) (h p)
before_then (err z) y f g e h = rw (← e)

module _ (r : List ℕ) (y : Layout) where
  abbrev Alike_nodes : (Edge → Row → List ℕ → Out Printed) → (Edge → Row → List ℕ → Out Printed) → Type 0
  Alike_nodes f g = (s : Edge) (w : Row) (v : List ℕ) → f s (unlinked w) v ≡ g s w v

  rendered : (f g : Edge → Row → List ℕ → Out Printed) → Alike_nodes f g → (prefix : List Bool) (k : Kind) (cs : List Child) (v : List ℕ)
      → render_children f prefix k (map unlinked_child cs) v ≡ render_children g prefix k cs v
  unfolding render_children unlinked_child
  rendered f g h prefix k [] v = refl
  rendered f g h prefix k (c ∷ cs) v =
      rw (none_left_unlinked cs) (before_then _ _ _ _ (h (edge prefix (none_left cs) k c.place) c.row v) (λ p. ap (before p.0) (rendered f g h prefix k cs p.1)))

  line_unlinked : (s : Edge) (w : Row) (b : Bool) → node_line r s (unlinked w) b ≡ node_line r s w b
  unfolding node_line unlinked
  line_unlinked s w b = rw (describe_unlinked r w)

  node_unlinked : (levels : ℕ) → Alike_nodes (render_tree_node r (forgotten y) levels) (render_tree_node r y levels)
  unfolding render_tree_node unlinked
  node_unlinked zero s w v = refl
  node_unlinked (suc levels) s w v = go (elem w.off v) (node_unlinked levels)
    where
      go : (b : Bool) → Alike_nodes (render_tree_node r (forgotten y) levels) (render_tree_node r y levels)
          → node_by b (render_tree_node r (forgotten y) levels) r (forgotten y) s (unlinked w) v ≡ node_by b (render_tree_node r y levels) r y s w v
      go true h = unfold node_by in rw (line_unlinked s w true)
      go false h = unfold node_by forgotten forget links_of in
          rw (line_unlinked s w false, children_unlinked 0 (take w.link_count (drop w.first_link y.state.links)) y.blocks)
          (ap (before (node_line r s w false)) (rendered _ _ h (child_prefix s) w.kind _ (w.off ∷ v)))

  roots_unlinked : (ws : List Row) (v : List ℕ) → roots r (forgotten y) (map unlinked ws) v ≡ roots r y ws v
  unfolding roots unlinked
  roots_unlinked [] v = refl
  roots_unlinked (w ∷ ws) v = before_then _ _ _ _ (go (elem w.off v)) (λ p. ap (before p.0) (roots_unlinked ws p.1))
    where
      go : (b : Bool) → root_by b r (forgotten y) (unlinked w) v ≡ root_by b r y w v
      go true = unfold root_by in refl
      go false = unfold root_by in node_unlinked max_levels root w v

  pub to_tree_forgotten : to_tree r (forgotten y) ≡ to_tree r y
  unfolding to_tree forgotten
  to_tree_forgotten = roots_unlinked y.blocks []
