-- Demand 3 of the entries: what specs/Demand3.antt states.
use mathlib.Core.Path.{◌≡◌, refl, sym, ap, ◌∙◌}
use mathlib.Core.List.{List, [], ◌∷◌, ◌++◌, map}
use mathlib.Core.Logic.{◌⊎◌, inl, inr}
use Prim.Native.Nat.{ℕ, zero, suc, ◌/◌, ◌<◌}
use native.Mathlib.Omega.{arith}
use lib.ListN.{length, length-map, get_or, take, get_or-map}
use lib.Seq.{take-append_seam}
use Rattle.mdf4.specs.Bytes.{concat_map, Range, sum}
use Rattle.mdf4.specs.Act.{Row, Link, Out, ok, err, and_then, State}
use Rattle.mdf4.specs.Kinds.{null}
use Rattle.mdf4.specs.Walk.{walk, start}
use Rattle.mdf4.specs.Layout.{Layout, walk_state, layout, extent, finalized}
use Rattle.mdf4.specs.Clear.{clear_ranges, clr_bytes}
use Rattle.mdf4.specs.Blank.{nonzero}
use Rattle.mdf4.specs.Listing.{to_text}
use Rattle.mdf4.specs.Tree.{to_tree}
use Rattle.mdf4.specs.Paths.{path}
use Rattle.mdf4.specs.Answers.{Lent, Counts, Exit, Made, made, exit, laid, laid_finalized, clearable, limits, fitted, room, counts, filled, counted, layout_made, to_text_made, to_tree_made, path_made, clear_list_made, blank_made, preview_made, layout_exit, to_text_exit, to_tree_exit, path_exit, clear_list_exit, blank_exit, preview_exit, row_words, link_words, range_words, block_row_words, pair_words}
use Rattle.mdf4.specs.Blanked.{untotalled, uncounted, preview_uncounted}
use Rattle.mdf4.specs.Demand3.{Again, Alike, Tables, Cleared, Block, Spared, read, read_by, kept, kept_by, ranges_in, offsets, extents_in, gaps_in, targets_in, Origin, origins_in, origin_at, Pathed}
use Rattle.mdf4.proofs.Results.{never, and_then_ok, check_ok}
use Rattle.mdf4.proofs.Reading.{Agree}
use Rattle.mdf4.proofs.Walk.{walk_again, walk_id_whole}
use Rattle.mdf4.proofs.Laid.{walked, state_is, walked_state, granted, ascending, partition, each_gap, gaps_add_up, clear_neither, block_header, block_not_clear, clear_apart, clear_fewest}
use Rattle.mdf4.proofs.Finalized.{finalized_zeros}
use Rattle.mdf4.proofs.Order.{Above, Rising}
use Rattle.mdf4.proofs.Paths.{origin, origins_back, layout_followed, path_leads, path_none}
use Rattle.mdf4.proofs.Texts.{Shared, shared, counting, layout_exit_same, to_text_exit_same, to_tree_exit_same, path_exit_same, clear_list_exit_same, blank_exit_same, counting_same}

-- an accepted call has made something, which rests on the layout
pub record Accepted (n : Lent) (r : List ℕ) (m : Out Made) (c : Counts) : Type 0 where
  pub x : Made
  pub made_is : m ≡ ok x
  pub counted : counts x ≡ c
  pub laid_is : laid n r ≡ ok x.layout

exit_ok : (n : Lent) (m : Out Made) (c : Counts) → (exit n m).answer ≡ ok c → (x : Made) × (m ≡ ok x) × (counts x ≡ c)
unfolding exit
exit_ok n (ok x) c e = (x, refl, cc)
exit_ok n (err z) c e = never (sym e)

accepted : (n : Lent) (r : List ℕ) (m : Out Made) (c : Counts) → (exit n m).answer ≡ ok c → ((x : Made) → m ≡ ok x → laid n r ≡ ok x.layout) → Accepted n r m c
accepted n r m c e f = let x = exit_ok n m c e in record { x = x.0; made_is = x.1; counted = x.2; laid_is = f x.0 x.1 }

fitted_ok : (n : ℕ) (y : Layout) (v t : List ℕ) (x : Made) → fitted n y v t ≡ ok x → made y v t ≡ x
unfolding fitted
fitted_ok n y v t x e = let q = (check_ok _ _ _ _ e).1 in cc

-- what clear list, blanker and preview take is finalised, and laid out
clearable_finalized : (n : Lent) (r : List ℕ) (y : Layout) → clearable n r ≡ ok y → (finalized r ≡ ok tt) × (laid n r ≡ ok y)
unfolding clearable laid_finalized laid room
clearable_finalized n r y e =
    let p = and_then_ok (laid_finalized n r) _ y e in
    let q = (check_ok _ _ _ _ p.2).1 in
    let z : p.0 ≡ y = cc in
    granted (finalized r) (limits n) (n.gaps / pair_words) r y (p.1 ∙ ap ok z)

pub clearable_is : (n : Lent) (r : List ℕ) (y : Layout) → clearable n r ≡ ok y → laid n r ≡ ok y
clearable_is n r y e = (clearable_finalized n r y e).1

module _ (n : Lent) (r : List ℕ) where
  layout_laid : (x : Made) → layout_made n r ≡ ok x → laid n r ≡ ok x.layout
  unfolding layout_made
  layout_laid x e = let q = and_then_ok (laid n r) _ x e in let z : made q.0 [] [] ≡ x = cc in rw (← z) q.1

  to_text_laid : (x : Made) → to_text_made n r ≡ ok x → laid n r ≡ ok x.layout
  unfolding to_text_made
  to_text_laid x e = let q = and_then_ok (laid n r) _ x e in rw (← fitted_ok n.out q.0 [] (to_text r q.0) x q.2) q.1

  to_tree_laid : (x : Made) → to_tree_made n r ≡ ok x → laid n r ≡ ok x.layout
  unfolding to_tree_made
  to_tree_laid x e =
      let q = and_then_ok (laid n r) _ x e in
      let p = and_then_ok (to_tree r q.0) _ x q.2 in
      rw (← fitted_ok n.out q.0 p.0.1 p.0.0 x p.2) q.1

  pub path_laid : (a : ℕ) (x : Made) → path_made a n r ≡ ok x → (laid n r ≡ ok x.layout) × (x.text ≡ path x.layout a)
  unfolding path_made room
  path_laid a x e =
      let q = and_then_ok (laid n r) _ x e in
      let p = check_ok _ _ _ _ q.2 in
      let z : made q.0 [] (path q.0 a) ≡ x = cc in
      rw (← z) (q.1, refl)

  -- the clear list's text is the CLR bytes of the layout's clear ranges
  pub clear_list_cleared : (x : Made) → clear_list_made n r ≡ ok x → (clearable n r ≡ ok x.layout) × (x.text ≡ clr_bytes (length r) (clear_ranges r x.layout))
  unfolding clear_list_made
  clear_list_cleared x e =
      let q = and_then_ok (clearable n r) _ x e in
      rw (← fitted_ok n.out q.0 [] (clr_bytes (length r) (clear_ranges r q.0)) x q.2) (q.1, refl)

  pub blank_cleared : (x : Made) → blank_made n r ≡ ok x → clearable n r ≡ ok x.layout
  unfolding blank_made
  blank_cleared x e = let q = and_then_ok (clearable n r) _ x e in let z : made q.0 [] [] ≡ x = cc in rw (← z) q.1

  pub counting_cleared : (f : Range → ℕ) (x : Made) → counting f n r ≡ ok x → (clearable n r ≡ ok x.layout) × (x.text ≡ map f (clear_ranges r x.layout)) × (x.total ≡ sum x.text)
  unfolding counting counted room
  counting_cleared f x e =
      let q = and_then_ok (clearable n r) _ x e in
      let p = (check_ok _ _ _ _ q.2).1 in
      let z : counted q.0 (map f (clear_ranges r q.0)) ≡ x = cc in
      rw (← z) (q.1, refl, refl)

  module _ (c : Counts) where
    layout_accepted : (layout_exit n r).answer ≡ ok c → Accepted n r (layout_made n r) c
    unfolding layout_exit
    layout_accepted e = accepted n r (layout_made n r) c e layout_laid

    to_text_accepted : (to_text_exit n r).answer ≡ ok c → Accepted n r (to_text_made n r) c
    unfolding to_text_exit
    to_text_accepted e = accepted n r (to_text_made n r) c e to_text_laid

    to_tree_accepted : (to_tree_exit n r).answer ≡ ok c → Accepted n r (to_tree_made n r) c
    unfolding to_tree_exit
    to_tree_accepted e = accepted n r (to_tree_made n r) c e to_tree_laid

    pub path_accepted : (a : ℕ) → (path_exit a n r).answer ≡ ok c → Accepted n r (path_made a n r) c
    unfolding path_exit
    path_accepted a e = accepted n r (path_made a n r) c e (λ x q. (path_laid a x q).0)

    pub clear_list_accepted : (clear_list_exit n r).answer ≡ ok c → Accepted n r (clear_list_made n r) c
    unfolding clear_list_exit
    clear_list_accepted e = accepted n r (clear_list_made n r) c e (λ x q. clearable_is n r x.layout (clear_list_cleared x q).0)

    pub blank_accepted : (blank_exit n r).answer ≡ ok c → Accepted n r (blank_made n r) c
    unfolding blank_exit
    blank_accepted e = accepted n r (blank_made n r) c e (λ x q. clearable_is n r x.layout (blank_cleared x q))

    pub preview_accepted : (preview_exit n r).answer ≡ ok c → Accepted n r (counting (nonzero r) n r) c
    unfolding preview_exit preview_made counting
    preview_accepted e = accepted n r (counting (nonzero r) n r) c e (λ x q. clearable_is n r x.layout (counting_cleared (nonzero r) x q).0)

-- Two recordings

-- the walk of the second ends in the same state, and there they share what an entry takes from them
module _ (n : Lent) (r r' : List ℕ) (y : Layout) (e : laid n r ≡ ok y) (k : Alike n r r') where
  ended : (s : State) × (walk r (start (limits n)) ≡ ok (tt, s)) × Agree r r' s
  unfolding read read_by laid
  ended =
      let w = walked (limits n) (n.gaps / pair_words) r y e in
      let z = state_is (limits n) (n.gaps / pair_words) r y e in
      (w.0, w.1, record { size = k.size; at = λ i l h. k.at i l (rw (e, z) h) })

  first : walk_state (limits n) r ≡ ok ended.0
  first = walked_state (limits n) r ended.0 ended.1

  second : walk_state (limits n) r' ≡ ok ended.0
  second = walked_state (limits n) r' ended.0 (walk_again (limits n) r r' ended.0 ended.1 ended.2)

  there : (s : State) → ◌≡◌ {A = Out State} (ok ended.0) (ok s) → Shared r r' s
  there s q = let z : ended.0 ≡ s = cc in rw (← z) (shared (limits n) r r' ended.0 ended.1 ended.2)

-- an entry that takes no more from two recordings than they share, and accepts only what has a layout, answers both alike
pub record Same (entry : Lent → List ℕ → Exit) : Type 0 where
  pub same : (n : Lent) (r r' : List ℕ) (o : Out State) → walk_state (limits n) r ≡ o → walk_state (limits n) r' ≡ o → ((s : State) → o ≡ ok s → Shared r r' s)
      → entry n r ≡ entry n r'
  pub laid : (n : Lent) (r : List ℕ) (c : Counts) → (entry n r).answer ≡ ok c → (y : Layout) × (laid n r ≡ ok y)

again : (entry : Lent → List ℕ → Exit) → Same entry → Again entry
again entry h = record {
  same = λ n r r' c e k.
      let a = h.laid n r c e in
      sym (h.same n r r' _ (first n r r' a.0 a.1 k) (second n r r' a.0 a.1 k) (there n r r' a.0 a.1 k));
}

pub same_layout : Same layout_exit
same_layout = record { same = layout_exit_same; laid = λ n r c e. let a = layout_accepted n r c e in (a.x.layout, a.laid_is) }

pub same_to_text : Same to_text_exit
same_to_text = record { same = to_text_exit_same; laid = λ n r c e. let a = to_text_accepted n r c e in (a.x.layout, a.laid_is) }

pub same_to_tree : Same to_tree_exit
same_to_tree = record { same = to_tree_exit_same; laid = λ n r c e. let a = to_tree_accepted n r c e in (a.x.layout, a.laid_is) }

pub same_path : (a : ℕ) → Same (path_exit a)
same_path a = record { same = λ n r r' o e e' t. path_exit_same n r r' o e e' t a; laid = λ n r c e. let x = path_accepted n r c a e in (x.x.layout, x.laid_is) }

pub same_clear_list : Same clear_list_exit
same_clear_list = record { same = clear_list_exit_same; laid = λ n r c e. let a = clear_list_accepted n r c e in (a.x.layout, a.laid_is) }

pub same_blank : Same blank_exit
same_blank = record { same = blank_exit_same; laid = λ n r c e. let a = blank_accepted n r c e in (a.x.layout, a.laid_is) }

-- the preview but for what it counts: whatever is counted of a range, the rest is one
untotalled_ok : (a : Out Counts) (c : Counts) → untotalled a ≡ ok c → (k : Counts) × (a ≡ ok k)
unfolding untotalled
untotalled_ok (ok k) c e = (k, refl)
untotalled_ok (err z) c e = never (sym e)

uncounted_any : (f g : Range → ℕ) (n : Lent) (r : List ℕ) → uncounted (exit n (counting f n r)) ≡ uncounted (exit n (counting g n r))
unfolding counting counted and_then room uncounted untotalled exit counts
uncounted_any f g n r = go (clearable n r)
  where
    go : (o : Out Layout) → uncounted (exit n (and_then o (λ y. and_then (room n.out (length (clear_ranges r y))) (λ u. ok (counted y (map f (clear_ranges r y)))))))
        ≡ uncounted (exit n (and_then o (λ y. and_then (room n.out (length (clear_ranges r y))) (λ u. ok (counted y (map g (clear_ranges r y)))))))
    go (ok y) = fits (room n.out (length (clear_ranges r y)))
      where
        fits : (m : Out (Unit {0})) → uncounted (exit n (and_then m (λ u. ok (counted y (map f (clear_ranges r y)))))) ≡ uncounted (exit n (and_then m (λ u. ok (counted y (map g (clear_ranges r y))))))
        fits (ok u) = rw (length-map (clear_ranges r y) f, length-map (clear_ranges r y) g)
        fits (err z) = refl
    go (err z) = refl

pub same_preview : Same preview_uncounted
unfolding preview_uncounted preview_exit preview_made counting
same_preview = record {
  same = λ n r r' o e e' t.
      ap (λ (m : Out Made). uncounted (exit n m)) (counting_same n r r' o e e' t (nonzero r) (nonzero r) (λ s q. refl)) ∙ uncounted_any (nonzero r) (nonzero r') n r';
  laid = λ n r c e.
      let k = untotalled_ok (preview_exit n r).answer c (unfold uncounted in e) in
      let a = preview_accepted n r k.0 k.1 in (a.x.layout, a.laid_is);
}

pub layout_again : Again layout_exit
layout_again = again layout_exit same_layout

pub to_text_again : Again to_text_exit
to_text_again = again to_text_exit same_to_text

pub to_tree_again : Again to_tree_exit
to_tree_again = again to_tree_exit same_to_tree

pub path_again : (a : ℕ) → Again (path_exit a)
path_again a = again (path_exit a) (same_path a)

pub clear_list_again : Again clear_list_exit
clear_list_again = again clear_list_exit same_clear_list

pub blank_again : Again blank_exit
blank_again = again blank_exit same_blank

pub preview_again : Again preview_uncounted
preview_again = again preview_uncounted same_preview

-- The tables: rows written as words are read back as they were

pub rows_in : (v : List ℕ) (ws : List Row) (z : List ℕ) → ranges_in block_row_words (length ws) (concat_map (row_words v) ws ++ z) ≡ map extent ws
unfolding ranges_in concat_map row_words
rows_in v [] z = refl
rows_in v (w ∷ ws) z = ap (λ (ps : List Range). extent w ∷ ps) (rows_in v ws z)

pub pairs_in : (gs : List Range) (z : List ℕ) → ranges_in pair_words (length gs) (concat_map range_words gs ++ z) ≡ gs
unfolding ranges_in concat_map range_words
pairs_in [] z = refl
pairs_in (g ∷ gs) z = ap (λ (ps : List Range). g ∷ ps) (pairs_in gs z)

pub links_in : (ls : List Link) (z : List ℕ) → offsets (ranges_in pair_words (length ls) (concat_map link_words ls ++ z)) ≡ map (λ (l : Link). l.target) ls
unfolding offsets ranges_in concat_map link_words
links_in [] z = refl
links_in (l ∷ ls) z = ap (λ (ts : List ℕ). l.target ∷ ts) (links_in ls z)

above_at : (x : ℕ) (vs : List Row) (j : ℕ) → Above x vs → j < length vs → x < (get_or (map extent vs) j (0, 0)).0
above_at x [] j a h = absurd (omega arith)
above_at x (v ∷ vs) zero a h = a.0
above_at x (v ∷ vs) (suc j) a h = above_at x vs j a.1 (omega arith)

rising_at : (ws : List Row) → Rising ws → (i j : ℕ) → i < j → j < length ws → (get_or (map extent ws) i (0, 0)).0 < (get_or (map extent ws) j (0, 0)).0
rising_at [] a i j l h = absurd (omega arith)
rising_at (w ∷ ws) a i zero l h = absurd (omega arith)
rising_at (w ∷ ws) a zero (suc j) l h = above_at w.off ws j a.0 (omega arith)
rising_at (w ∷ ws) a (suc i) (suc j) l h = rising_at ws a.1 i j (omega arith) (omega arith)

module _ (n : Lent) (r : List ℕ) (m : Out Made) (c : Counts) (a : Accepted n r m c) where
  pub is : layout (limits n) (n.gaps / pair_words) r ≡ ok a.x.layout
  unfolding laid
  is = a.laid_is

  blocks_are : c.blocks ≡ length a.x.layout.blocks
  unfolding counts
  blocks_are = sym (ap (λ (k : Counts). k.blocks) a.counted)

  gaps_are : c.gaps ≡ length a.x.layout.gaps
  unfolding counts
  gaps_are = sym (ap (λ (k : Counts). k.gaps) a.counted)

  extents_are : extents_in (exit n m) c ≡ map extent a.x.layout.blocks
  unfolding extents_in exit filled
  extents_are = rw (a.made_is, blocks_are) (rows_in a.x.printed a.x.layout.blocks _)

  pub gaps_in_are : gaps_in (exit n m) c ≡ a.x.layout.gaps
  unfolding gaps_in exit filled
  gaps_in_are = rw (a.made_is, gaps_are) (pairs_in a.x.layout.gaps _)

  pub links_are : c.links ≡ length a.x.layout.state.links
  unfolding counts
  links_are = sym (ap (λ (k : Counts). k.links) a.counted)

  targets_are : targets_in (exit n m) c ≡ map (λ (l : Link). l.target) a.x.layout.state.links
  unfolding targets_in exit filled
  targets_are = rw (a.made_is, links_are) (links_in a.x.layout.state.links _)

  pub target_is : (j : ℕ) → get_or (targets_in (exit n m) c) j 0 ≡ (get_or a.x.layout.state.links j null).target
  target_is j = rw targets_are (get_or-map (λ (l : Link). l.target) a.x.layout.state.links j null)

  -- what the rows tell of links
  pub origins_are : origins_in (exit n m) c ≡ map origin a.x.layout.blocks
  unfolding origins_in exit filled
  origins_are = rw (a.made_is, blocks_are) (origins_back a.x.printed a.x.layout.blocks _)

  rows_are : length (origins_in (exit n m) c) ≡ c.blocks
  rows_are = rw (origins_are, blocks_are) (length-map a.x.layout.blocks origin)

  tables : Tables r (exit n m) c
  tables = record {
    ascend = λ i j l h. rw extents_are (rising_at a.x.layout.blocks (ascending (limits n) (n.gaps / pair_words) r a.x.layout is) i j l (rw (← blocks_are) h));
    partition = λ i l. rw (extents_are, gaps_in_are) (partition (limits n) (n.gaps / pair_words) r a.x.layout is i l);
    gap = λ i l. rw (extents_are, gaps_in_are) (each_gap (limits n) (n.gaps / pair_words) r a.x.layout is i (rw (← gaps_are) l));
    add_up = rw (extents_are, gaps_in_are) (gaps_add_up (limits n) (n.gaps / pair_words) r a.x.layout is);
    followed = rw (origins_are, targets_are) (layout_followed (limits n) (n.gaps / pair_words) r a.x.layout is);
  }

module _ (n : Lent) (r : List ℕ) (c : Counts) where
  pub layout_tables : (layout_exit n r).answer ≡ ok c → Tables r (layout_exit n r) c
  unfolding layout_exit
  layout_tables e = tables n r (layout_made n r) c (layout_accepted n r c (unfold layout_exit in e))

  pub to_text_tables : (to_text_exit n r).answer ≡ ok c → Tables r (to_text_exit n r) c
  unfolding to_text_exit
  to_text_tables e = tables n r (to_text_made n r) c (to_text_accepted n r c (unfold to_text_exit in e))

  pub to_tree_tables : (to_tree_exit n r).answer ≡ ok c → Tables r (to_tree_exit n r) c
  unfolding to_tree_exit
  to_tree_tables e = tables n r (to_tree_made n r) c (to_tree_accepted n r c (unfold to_tree_exit in e))

  pub path_tables : (a : ℕ) → (path_exit a n r).answer ≡ ok c → Tables r (path_exit a n r) c
  unfolding path_exit
  path_tables a e = tables n r (path_made a n r) c (path_accepted n r c a (unfold path_exit in e))

  pub clear_list_tables : (clear_list_exit n r).answer ≡ ok c → Tables r (clear_list_exit n r) c
  unfolding clear_list_exit
  clear_list_tables e = tables n r (clear_list_made n r) c (clear_list_accepted n r c (unfold clear_list_exit in e))

  pub blank_tables : (blank_exit n r).answer ≡ ok c → Tables r (blank_exit n r) c
  unfolding blank_exit
  blank_tables e = tables n r (blank_made n r) c (blank_accepted n r c (unfold blank_exit in e))

  pub preview_tables : (preview_exit n r).answer ≡ ok c → Tables r (preview_exit n r) c
  unfolding preview_exit preview_made counting
  preview_tables e = tables n r (counting (nonzero r) n r) c (preview_accepted n r c e)

-- What stands in an output

bytes_are : (n : Lent) (r : List ℕ) (m : Out Made) (c : Counts) (a : Accepted n r m c) → c.bytes ≡ length a.x.text
unfolding counts
bytes_are n r m c a = sym (ap (λ (k : Counts). k.bytes) a.counted)

pub written : (n : Lent) (r : List ℕ) (m : Out Made) (c : Counts) (a : Accepted n r m c) → take c.bytes (exit n m).out ≡ a.x.text
unfolding exit filled
written n r m c a =
    ap (λ (k : ℕ). take k (exit n m).out) (bytes_are n r m c a) ∙ ap (λ (x : Out Made). take (length a.x.text) (exit n x).out) a.made_is ∙ take-append_seam a.x.text _

-- the path
pub pathed : (a : ℕ) (n : Lent) (r : List ℕ) (c : Counts) → (path_exit a n r).answer ≡ ok c → Pathed a (path_exit a n r) c
unfolding path_exit
pathed a n r c e =
    let m = path_made a n r in
    let k = path_accepted n r c a (unfold path_exit in e) in
    let p = path_laid n r a k.x k.made_is in
    let y = k.x.layout in
    let i = is n r m c k in
    let w : take c.bytes (exit n m).out ≡ path y a = written n r m c k ∙ p.1 in
    let b : c.bytes ≡ length (path y a) = bytes_are n r m c k ∙ ap length p.1 in
    let o = origins_are n r m c k in
    let s = rows_are n r m c k in
    record {
      listed = λ j l q d. rw (o, w) (path_leads (limits n) (n.gaps / pair_words) r y i j a (rw o at (rw (← s) at l)) (rw o at q) d);
      unlisted = λ u. b ∙ ap length (path_none y a (none_of y (origins_in (exit n m) c) c.blocks s o u));
    }
  where
    none_of : (y : Layout) (os : List Origin) (k : ℕ) → length os ≡ k → os ≡ map origin y.blocks → (a ≡ 0) ⊎ ((j : ℕ) → j < k → (origin_at os j).off ≡ a → ⊥)
        → (a ≡ 0) ⊎ ((j : ℕ) → j < length (map origin y.blocks) → (origin_at (map origin y.blocks) j).off ≡ a → ⊥)
    none_of y os k s o (inl z) = inl z
    none_of y os k s o (inr h) = inr (λ j l q. h j (rw (← s, o) l) (rw o q))

-- the clear list
spared : (n : Lent) (r : List ℕ) (y : Layout) → laid n r ≡ ok y → layout (limits n) (n.gaps / pair_words) r ≡ ok y
    → (j : ℕ) → j < length y.state.links → Block r (get_or y.state.links j null).target → Spared n r (clear_ranges r y) (get_or y.state.links j null).target
unfolding read read_by
spared n r y e h j l b = record {
  header = λ i m u. rw e (block_header (limits n) (n.gaps / pair_words) r y h j l b i m u);
  extent = λ i m u. block_not_clear (limits n) (n.gaps / pair_words) r y h j l b i m (omega arith);
}

pub cleared : (n : Lent) (r : List ℕ) (c : Counts) → (clear_list_exit n r).answer ≡ ok c → Cleared n r (clear_list_exit n r) c
unfolding clear_list_exit read read_by kept kept_by
cleared n r c e =
    let a = clear_list_accepted n r c (unfold clear_list_exit in e) in
    let p = clear_list_cleared n r a.x a.made_is in
    let y = a.x.layout in
    let i = is n r (clear_list_made n r) c a in
    let w = walked (limits n) (n.gaps / pair_words) r y i in
    record {
      ranges = clear_ranges r y;
      written = written n r (clear_list_made n r) c a ∙ p.1;
      exact = λ j. rw (gaps_in_are n r (clear_list_made n r) c a, a.laid_is) (clear_neither (limits n) (n.gaps / pair_words) r y i j);
      spares = λ j l. rw (target_is n r (clear_list_made n r) c a j) (spared n r y a.laid_is i j (rw (← links_are n r (clear_list_made n r) c a) l));
      finalized = finalized_zeros r (walk_id_whole (limits n) r w.0 w.1) (clearable_finalized n r y p.0).0;
      apart = clear_apart (limits n) (n.gaps / pair_words) r y i;
      fewest = clear_fewest (limits n) (n.gaps / pair_words) r y i;
    }
