-- Two recordings that agree on what the first one reads have one listing, one tree and one clear list, and every entry gives one
-- answer and leaves the same in the lent memory.
use mathlib.Core.Path.{◌≡◌, refl, sym, ap, ◌∙◌}
use mathlib.Core.Bool.{cond, Bool, true, false}
use mathlib.Core.List.{List, [], ◌∷◌, map}
use Prim.Native.Nat.{ℕ, zero, suc, ◌+◌, ◌/◌, ◌<◌}
use native.Mathlib.Omega.{arith}
use lib.Dec.{leb, eqb}
use lib.ListN.{length, get_or}
use Rattle.mdf4.specs.Bytes.{bytes, num, Range, within, inside, concat_map}
use Rattle.mdf4.specs.Act.{Result, Out, ok, err, and_then, Kind, CN, Row, Link, State, Limits, elem}
use Rattle.mdf4.specs.Kinds.{read_len, is, name_link, name_is_text, name_len, name_head}
use Rattle.mdf4.specs.Walk.{walk, start}
use Rattle.mdf4.specs.Reads.{name_ranges, named_ranges, link_ranges, links_at, ranges_at, row_ranges, read_ranges, spared_ranges}
use Rattle.mdf4.specs.Layout.{insert, sort, Layout, layout_of, walk_state, gaps_fitted, layout_if, layout, finalized}
use Rattle.mdf4.specs.Clear.{clear_ranges}
use Rattle.mdf4.specs.Describe.{name_bytes, block_bytes, row_name, describe, extra_line}
use Rattle.mdf4.specs.Listing.{row_lines, block_links, links_of, to_text}
use Rattle.mdf4.specs.Tree.{Edge, root, Child, child_at, child_of, children, Printed, render_children, node_line, node_by, render_tree_node, root_by, roots, to_tree, max_levels}
use Rattle.mdf4.specs.Answers.{Lent, limits, laid, laid_finalized, room, clearable, Made, exit, counted, layout_made, to_text_made, to_tree_made, path_made, clear_list_made, blank_made, layout_exit, to_text_exit, to_tree_exit, path_exit, clear_list_exit, blank_exit, pair_words}
use Rattle.mdf4.proofs.Bytes.{inside_append, or_left, or_right, bytes_agree, concat_map_inside}
use Rattle.mdf4.proofs.Reading.{row_links, Agree, within_in, read_len_same, block_bytes_same, links_at_same, name_head_same, own_agree, spared_ranges_same}
use Rattle.mdf4.proofs.Lists.{All, all_append, all_map}
use Rattle.mdf4.proofs.Walk.{walk_inv, walk_id_reads}

all_insert : (P : Row → Type 0) (w : Row) (vs : List Row) → P w → All P vs → All P (insert w vs)
unfolding insert
all_insert P w [] l t = (l, tt)
all_insert P w (v ∷ vs) l t = go (leb w.off v.off) (all_insert P w vs l t.1)
  where
    go : (b : Bool) → All P (insert w vs) → All P (cond b (w ∷ v ∷ vs) (v ∷ insert w vs))
    go true h = (l, t)
    go false h = (t.0, h)

pub all_sort : (P : Row → Type 0) (ws : List Row) → All P ws → All P (sort ws)
unfolding sort
all_sort P [] t = tt
all_sort P (w ∷ ws) t = all_insert P w (sort ws) t.0 (all_sort P ws t.1)

-- the recordings say the same of a row
pub record Told (r r' : List ℕ) (w : Row) : Type 0 where
  pub description : describe r w ≡ describe r' w
  pub below : extra_line r w ≡ extra_line r' w

module _ (r r' : List ℕ) (same : length r ≡ length r') where
  name_bytes_same : (l : Link) → ((i : ℕ) → i < length r → inside i (name_ranges (length r) l (name_head r l)) ≡ true → get_or r i 0 ≡ get_or r' i 0)
      → name_bytes r l ≡ name_bytes r' l
  unfolding name_bytes name_ranges
  name_bytes_same l f = rw (← same, ← name_head_same r r' same l f) (go (name_is_text (length r) l) f)
    where
      go : (b : Bool) → ((i : ℕ) → i < length r → inside i (cond b ((l.target, l.target + name_len (length r) l (name_head r l)) ∷ []) []) ≡ true → get_or r i 0 ≡ get_or r' i 0)
          → cond b (bytes r l.target (name_len (length r) l (name_head r l))) [] ≡ cond b (bytes r' l.target (name_len (length r) l (name_head r l))) []
      go true g = bytes_agree r r' l.target (name_len (length r) l (name_head r l)) same (λ i q m u. g i q (within_in i l.target (name_len (length r) l (name_head r l)) m u []))
      go false g = refl

  module _ (w : Row)
      (f : (i : ℕ) → i < length r → inside i (row_ranges r w) ≡ true → get_or r i 0 ≡ get_or r' i 0)
      (g : (i : ℕ) → i < length r → inside i (concat_map (link_ranges (length r)) (links_at r w.kind w.off)) ≡ true → get_or r i 0 ≡ get_or r' i 0) where
    own_again : block_bytes r w ≡ block_bytes r' w
    unfolding block_bytes
    own_again = rw (← read_len_same r r' same w.kind w.off (own_agree r r' same w.kind w.off f g)) (block_bytes_same r r' same w.kind w.off (own_agree r r' same w.kind w.off f g))

    name_read : (i : ℕ) → i < length r → inside i (named_ranges w.kind r (links_at r w.kind w.off)) ≡ true → get_or r i 0 ≡ get_or r' i 0
    unfolding ranges_at inside
    name_read i l q = f i l (or_right (within i (w.off, w.off + read_len w.kind r w.off)) _ q)

    name_again : row_name r w ≡ row_name r' w
    unfolding row_name named_ranges
    name_again = rw (← links_at_same r r' same w.kind w.off f g) (go (is w.kind CN) name_read)
      where
        go : (b : Bool) → ((i : ℕ) → i < length r → inside i (cond b (name_ranges (length r) (name_link (links_at r w.kind w.off)) (name_head r (name_link (links_at r w.kind w.off)))) []) ≡ true → get_or r i 0 ≡ get_or r' i 0)
            → cond b (name_bytes r (name_link (links_at r w.kind w.off))) [] ≡ cond b (name_bytes r' (name_link (links_at r w.kind w.off))) []
        go true h = name_bytes_same (name_link (links_at r w.kind w.off)) h
        go false h = refl

    pub told : Told r r' w
    unfolding describe extra_line
    told = record { description = rw (own_again, name_again); below = rw own_again }

  pub all_told : (ws : List Row)
      → ((i : ℕ) → i < length r → inside i (concat_map (row_ranges r) ws) ≡ true → get_or r i 0 ≡ get_or r' i 0)
      → ((i : ℕ) → i < length r → inside i (concat_map (link_ranges (length r)) (row_links r ws)) ≡ true → get_or r i 0 ≡ get_or r' i 0)
      → All (Told r r') ws
  unfolding concat_map row_links
  all_told [] f g = tt
  all_told (w ∷ ws) f g = (
    told w (λ i l h. f i l (rw inside_append (or_left _ _ h))) (λ i l h. g i l (rw concat_map_inside (or_left _ _ h))),
    all_told ws (λ i l h. f i l (rw inside_append (or_right (inside i (row_ranges r w)) _ h)))
        (λ i l h. g i l (rw concat_map_inside (or_right (inside i (concat_map (link_ranges (length r)) (links_at r w.kind w.off))) _ h))),
  )

pub state_told : (r r' : List ℕ) (s : State) → s.links ≡ row_links r s.rows → Agree r r' s → All (Told r r') s.rows
unfolding read_ranges
state_told r r' s z c =
    all_told r r' c.size s.rows
    (λ i l h. c.at i l (rw inside_append (or_left _ _ h)))
    (λ i l h. c.at i l (rw (inside_append, z) (or_right (inside i (concat_map (row_ranges r) s.rows)) _ h)))

-- the listing
pub texts_same : {A : Type 0} (f g : A → List ℕ) (xs : List A) → All (λ x. f x ≡ g x) xs → concat_map f xs ≡ concat_map g xs
unfolding concat_map
texts_same f g [] a = refl
texts_same f g (x ∷ xs) a = rw (a.0, texts_same f g xs a.1)

-- parts that an answer is put together from
pub and_then_same : {E A B : Type 0} (m : Result E A) (f g : A → Result E B) → ((a : A) → f a ≡ g a) → and_then m f ≡ and_then m g
unfolding and_then
and_then_same (ok a) f g h = h a
and_then_same (err e) f g h = refl

module _ (r r' : List ℕ) (y : Layout) (size : length r ≡ length r') (h : All (Told r r') y.blocks) where
  row_line_same : (w : Row) → Told r r' w → row_lines r w ≡ row_lines r' w
  unfolding row_lines
  row_line_same w t = rw (t.description, t.below)

  block_links_same : (w : Row) → Told r r' w → block_links r y.state.links w ≡ block_links r' y.state.links w
  unfolding block_links
  block_links_same w t = rw t.description

  pub to_text_same : to_text r y ≡ to_text r' y
  unfolding to_text
  to_text_same =
      let a = texts_same (row_lines r) (row_lines r') y.blocks (all_map (Told r r') _ row_line_same y.blocks h) in
      let b = texts_same (block_links r y.state.links) (block_links r' y.state.links) y.blocks (all_map (Told r r') _ block_links_same y.blocks h) in
      rw (size, a, b)

  -- the tree
  abbrev Kid : Child → Type 0
  Kid c = Told r r' c.row

  kid_at : (i t : ℕ) (ws : List Row) → All (Told r r') ws → All Kid (child_at i t ws)
  unfolding child_at
  kid_at i t [] a = tt
  kid_at i t (w ∷ ws) a = go (eqb w.off t) (kid_at i t ws a.1)
    where
      go : (b : Bool) → All Kid (child_at i t ws) → All Kid (cond b (record { place = i; row = w } ∷ []) (child_at i t ws))
      go true q = (a.0, tt)
      go false q = q

  kid_of : (i : ℕ) (l : Link) → All Kid (child_of i l y.blocks)
  unfolding child_of
  kid_of i l = go (eqb l.target 0)
    where
      go : (b : Bool) → All Kid (cond b [] (child_at i l.target y.blocks))
      go true = tt
      go false = kid_at i l.target y.blocks h

  kids : (i : ℕ) (ls : List Link) → All Kid (children i ls y.blocks)
  unfolding children
  kids i [] = tt
  kids i (l ∷ ls) = all_append Kid (child_of i l y.blocks) (children (suc i) ls y.blocks) (kid_of i l) (kids (suc i) ls)

  children_same : (f g : Edge → Row → List ℕ → Out Printed) → ((s : Edge) (w : Row) (v : List ℕ) → Told r r' w → f s w v ≡ g s w v)
      → (prefix : List Bool) (k : Kind) (cs : List Child) → All Kid cs → (v : List ℕ) → render_children f prefix k cs v ≡ render_children g prefix k cs v
  unfolding render_children
  children_same f g e prefix k [] a v = refl
  children_same f g e prefix k (c ∷ cs) a v = rw (e _ c.row v a.0) (and_then_same _ _ _ (λ p. rw (children_same f g e prefix k cs a.1 p.1)))

  line_same : (s : Edge) (w : Row) (b : Bool) → Told r r' w → node_line r s w b ≡ node_line r' s w b
  unfolding node_line
  line_same s w b t = rw t.description

  node_by_same : (f g : Edge → Row → List ℕ → Out Printed) → ((s : Edge) (w : Row) (v : List ℕ) → Told r r' w → f s w v ≡ g s w v)
      → (s : Edge) (w : Row) (v : List ℕ) → Told r r' w → (b : Bool) → node_by b f r y s w v ≡ node_by b g r' y s w v
  unfolding node_by
  node_by_same f g e s w v t true = rw (line_same s w true t)
  node_by_same f g e s w v t false = rw (line_same s w false t, children_same f g e _ w.kind (children 0 (links_of y.state.links w) y.blocks) (kids 0 _) (w.off ∷ v))

  node_same : (levels : ℕ) (s : Edge) (w : Row) (v : List ℕ) → Told r r' w → render_tree_node r y levels s w v ≡ render_tree_node r' y levels s w v
  unfolding render_tree_node
  node_same zero s w v t = refl
  node_same (suc levels) s w v t = node_by_same (render_tree_node r y levels) (render_tree_node r' y levels) (node_same levels) s w v t (elem w.off v)

  root_same : (w : Row) (v : List ℕ) → Told r r' w → (b : Bool) → root_by b r y w v ≡ root_by b r' y w v
  unfolding root_by
  root_same w v t true = refl
  root_same w v t false = node_same max_levels root w v t

  roots_same : (ws : List Row) → All (Told r r') ws → (v : List ℕ) → roots r y ws v ≡ roots r' y ws v
  unfolding roots
  roots_same [] a v = refl
  roots_same (w ∷ ws) a v = rw (root_same w v a.0 (elem w.off v)) (and_then_same _ _ _ (λ p. rw (roots_same ws a.1 p.1)))

  pub to_tree_same : to_tree r y ≡ to_tree r' y
  unfolding to_tree
  to_tree_same = roots_same y.blocks h []

-- What two recordings share at the state in which the first one's walk ends: all that an entry takes from them.
pub record Shared (r r' : List ℕ) (s : State) : Type 0 where
  pub size : length r ≡ length r'
  pub finalized : finalized r ≡ finalized r'
  pub told : All (Told r r') s.rows
  pub spared : spared_ranges r s ≡ spared_ranges r' s

-- recordings that agree on what the first one reads share it: the flags that tell a finalised recording are among the ID's bytes
pub shared : (lim : Limits) (r r' : List ℕ) (s : State) → walk r (start lim) ≡ ok (tt, s) → Agree r r' s → Shared r r' s
unfolding finalized num
shared lim r r' s e c =
    let t = (walk_inv lim r s e).table in
    let p = bytes_agree r r' 60 2 c.size (λ i l m u. c.at i l (walk_id_reads lim r s e i (omega arith))) in
    let q = bytes_agree r r' 62 2 c.size (λ i l m u. c.at i l (walk_id_reads lim r s e i (omega arith))) in
    record { size = c.size; finalized = rw (p, q); told = state_told r r' s t c; spared = spared_ranges_same r r' s t c }

module _ (r r' : List ℕ) (s : State) (t : Shared r r' s) where
  pub layout_of_same : layout_of r s ≡ layout_of r' s
  unfolding layout_of
  layout_of_same = rw t.size

  blocks_told : All (Told r r') (layout_of r s).blocks
  unfolding layout_of
  blocks_told = all_sort (Told r r') s.rows t.told

  spared_is : spared_ranges r (layout_of r s).state ≡ spared_ranges r' (layout_of r s).state
  unfolding layout_of
  spared_is = t.spared

  pub clear_ranges_same : clear_ranges r (layout_of r s) ≡ clear_ranges r' (layout_of r s)
  unfolding clear_ranges
  clear_ranges_same = rw (spared_is, t.size)

-- what follows a test takes what was there before it
check_then : {A B : Type 0} (m : Out (Unit {0})) (a : A) (f g : A → Out B) → f a ≡ g a → and_then (and_then m (λ u. ok a)) f ≡ and_then (and_then m (λ u. ok a)) g
unfolding and_then
check_then (ok u) a f g e = e
check_then (err x) a f g e = refl

fitted_then : {B : Type 0} (lent : ℕ) (y : Layout) (f g : Layout → Out B) → f y ≡ g y → and_then (gaps_fitted lent y) f ≡ and_then (gaps_fitted lent y) g
unfolding gaps_fitted
fitted_then lent y f g e = check_then _ y f g e

and_then_assoc : {A B C : Type 0} (m : Out A) (f : A → Out B) (g : B → Out C) → and_then (and_then m f) g ≡ and_then m (λ a. and_then (f a) g)
unfolding and_then
and_then_assoc (ok a) f g = refl
and_then_assoc (err x) f g = refl

-- the preview with any count f of a range: recordings that differ in their clear bytes have this in common
unfoldable pub counting : (Range → ℕ) → Lent → List ℕ → Out Made
counting f n r = and_then (clearable n r) (λ y. and_then (room n.out (length (clear_ranges r y))) (λ u. ok (counted y (map f (clear_ranges r y)))))

-- Two recordings whose walks answer the same, and share what an entry takes from them where they end: every entry answers the same
-- and leaves the same in the lent memory, be it refused or not.
module _ (n : Lent) (r r' : List ℕ) (o : Out State) (e : walk_state (limits n) r ≡ o) (e' : walk_state (limits n) r' ≡ o) (t : (s : State) → o ≡ ok s → Shared r r' s) where
  laid_then : {B : Type 0} (asked asked' : Out (Unit {0})) (f g : Layout → Out B) → ((s : State) → Shared r r' s → asked ≡ asked')
      → ((s : State) → o ≡ ok s → f (layout_of r s) ≡ g (layout_of r s))
      → and_then (layout_if asked (limits n) (n.gaps / pair_words) r) f ≡ and_then (layout_if asked' (limits n) (n.gaps / pair_words) r') g
  unfolding layout_if and_then
  laid_then asked asked' f g a h = rw (e, e') (go o t h)
    where
      behind : (x : Out (Unit {0})) (s : State) → Shared r r' s → f (layout_of r s) ≡ g (layout_of r s)
          → and_then (and_then x (λ u. gaps_fitted (n.gaps / pair_words) (layout_of r s))) f ≡ and_then (and_then x (λ u. gaps_fitted (n.gaps / pair_words) (layout_of r' s))) g
      behind (ok u) s t h = rw (← layout_of_same r r' s t) (fitted_then _ (layout_of r s) f g h)
      behind (err x) s t h = refl

      go : (o : Out State) → ((s : State) → o ≡ ok s → Shared r r' s) → ((s : State) → o ≡ ok s → f (layout_of r s) ≡ g (layout_of r s))
          → and_then (and_then o (λ s. and_then asked (λ u. gaps_fitted (n.gaps / pair_words) (layout_of r s)))) f
          ≡ and_then (and_then o (λ s. and_then asked' (λ u. gaps_fitted (n.gaps / pair_words) (layout_of r' s)))) g
      go (ok s) t h = rw (← a s (t s refl)) (behind asked s (t s refl) (h s refl))
      go (err x) t h = refl

  clearable_then : {B : Type 0} (f g : Layout → Out B) → ((s : State) → o ≡ ok s → f (layout_of r s) ≡ g (layout_of r s)) → and_then (clearable n r) f ≡ and_then (clearable n r') g
  unfolding clearable laid_finalized
  clearable_then f g h =
      and_then_assoc (laid_finalized n r) _ f
      ∙ laid_then _ _ _ _ (λ s t. t.finalized) (λ s q. rw (spared_is r r' s (t s q)) (check_then _ (layout_of r s) f g (h s q)))
      ∙ sym (and_then_assoc (laid_finalized n r') _ g)

  pub layout_exit_same : layout_exit n r ≡ layout_exit n r'
  unfolding layout_exit layout_made laid layout
  layout_exit_same = ap (exit n) (laid_then _ _ _ _ (λ s t. refl) (λ s q. refl))

  pub to_text_exit_same : to_text_exit n r ≡ to_text_exit n r'
  unfolding to_text_exit to_text_made laid layout
  to_text_exit_same = ap (exit n) (laid_then _ _ _ _ (λ s t. refl) (λ s q. rw (to_text_same r r' (layout_of r s) (t s q).size (blocks_told r r' s (t s q)))))

  pub to_tree_exit_same : to_tree_exit n r ≡ to_tree_exit n r'
  unfolding to_tree_exit to_tree_made laid layout
  to_tree_exit_same = ap (exit n) (laid_then _ _ _ _ (λ s t. refl) (λ s q. rw (to_tree_same r r' (layout_of r s) (t s q).size (blocks_told r r' s (t s q)))))

  pub path_exit_same : (a : ℕ) → path_exit a n r ≡ path_exit a n r'
  unfolding path_exit path_made laid layout
  path_exit_same a = ap (exit n) (laid_then _ _ _ _ (λ s t. refl) (λ s q. refl))

  pub clear_list_exit_same : clear_list_exit n r ≡ clear_list_exit n r'
  unfolding clear_list_exit clear_list_made
  clear_list_exit_same = ap (exit n) (clearable_then _ _ (λ s q. rw (clear_ranges_same r r' s (t s q), (t s q).size)))

  pub blank_exit_same : blank_exit n r ≡ blank_exit n r'
  unfolding blank_exit blank_made
  blank_exit_same = ap (exit n) (clearable_then _ _ (λ s q. refl))

  -- a preview, with counts that are the same where the walk ends
  pub counting_same : (f g : Range → ℕ) → ((s : State) → o ≡ ok s → map f (clear_ranges r (layout_of r s)) ≡ map g (clear_ranges r (layout_of r s))) → counting f n r ≡ counting g n r'
  unfolding counting
  counting_same f g h = clearable_then _ _ (λ s q. rw (h s q, clear_ranges_same r r' s (t s q)))
