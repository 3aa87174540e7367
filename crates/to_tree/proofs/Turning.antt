-- Laws of the printer's loops: over a node's children, and over the roots. Assumes nothing.
use Rattle.std.proofs.Common.{◌≡◌, refl, sym, ap, subst, ◌∙◌, ℕ, suc, ◌+◌, ◌-◌, ◌≤◌, ◌<◌, Bool, true, false, not}
use Rattle.std.proofs.Common.{leb, List, [], ◌∷◌, Option, Some, None, Result, Ok, Err, length, get_or, take, drop, set, map, arith}
use Rattle.std.proofs.Math.Seq.{drop-cons}
use lib.ListN.{drop_of_length-le}
use Rattle.std.specs.Option.{is_some, IfSome}
use Rattle.std.specs.Result.{IsErrAnd}
use Rattle.std.proofs.lemmas.List.{length-map, take-map, drop-map}
use borrow.Author.Tests.{le-leb, lt-leb, leb-true, leb-false}
use Rattle.fmt.specs.Text.{Page, emit}
use Rattle.fmt.specs.declared.Page as lent
use Rattle.mdf4.specs.Answers.{block_row_words}
use Rattle.mdf4.specs.Act.{Refusal, Out, ok, err, and_then, Kind, Row, Link, elem}
use Rattle.mdf4.specs.Kinds.{null}
use Rattle.mdf4.specs.Layout.{Layout}
use Rattle.mdf4.specs.Listing.{links_of}
use Rattle.mdf4.specs.Tree.{Edge, root, edge, Child, child_of, children}
use Rattle.mdf4.specs.Tree.{none_left, Printed, render_children, render_tree_node, roots, to_tree, max_levels}
use Rattle.mdf4.proofs.Order.{Rising}
use Rattle.mdf4.proofs.TreeCode.{Shown, shown, turn_child, root_again, root_new}
use Rattle.blocks.specs.Errors.{numbers}
use Rattle.blocks.specs.Kind.{kind_named}
use Rattle.blocks.specs.declared.error.MdfError.{MdfError}
use Rattle.tables.specs.Rows.{row_of_words, link_of_words, row_at, row_of}
use Rattle.tables.specs.declared.BlockInfo.{BlockInfo}
use Rattle.tables.proofs.Tables.{table_length}
use Rattle.to_tree.specs.Ready.{rows_of}
use Rattle.to_tree.specs.Search.{child, children_from, stop, Stops, Next}
use Rattle.to_tree.specs.Lines.{edge_of}
use Rattle.to_tree.specs.Printing.{Holds, Went, Stopped, Printing, below, Into, Opening, Same, TreeMet}
use Rattle.to_tree.specs.declared.search.Child as declared
use Rattle.to_tree.specs.declared.line.Edge as link
use Rattle.to_tree.specs.declared.printer.Printer.{Printer}
use Rattle.to_tree.proofs.Lines.{child_edge}
use Rattle.to_tree.proofs.Opening.{pg}
use Rattle.to_tree.proofs.Searching.{from_cons, from_next, from_end}
use Rattle.to_tree.proofs.Marking.{mark_at, bit_true, bit_false, row_shown, rows_shown, row_held, mark_held}

-- a turn over the links, by the children behind it
turn_as : (f : Edge → Row → List ℕ → Out Printed) (bars : List Bool) (k : Kind) (i : ℕ) (l : Link) (ls : List Link) (ws : List Row)
    (v : List ℕ) (p : Page) (w : Row) → child_of i l ws ≡ child i w
    → (cs : List Child) → children (suc i) ls ws ≡ cs → (t : Bool) → none_left cs ≡ t
    → shown p (render_children f bars k (children i (l ∷ ls) ws) v)
    ≡ and_then (shown p (f (edge bars t k i) w v)) (λ z. shown z.0 (render_children f bars k cs z.1))
turn_as f bars k i l ls ws v p w e cs c t n = rw (← n, ← c) (turn_child f bars k i l ls ws v p (record { place = i; row = w }) e)

-- a step that goes on, or that refuses
then_ok : (o : Out Shown) (x : Shown) (f : Shown → Out Shown) → o ≡ ok x → and_then o f ≡ f x
unfolding and_then
then_ok o x f e = rw e

then_err : (o : Out Shown) (d : Refusal) (f : Shown → Out Shown) → o ≡ err d → and_then o f ≡ err d
unfolding and_then
then_err o d f e = rw e

-- whether a child is left, by its place
left_none : (i : ℕ) (ls : List Link) (ws : List Row) → length ls ≤ i → none_left (children_from i ls ws) ≡ leb (length ls) i
unfolding none_left
left_none i ls ws h = rw (from_end i ls ws h, le-leb (length ls) i h)

left_some : (i : ℕ) (ls : List Link) (ws : List Row) (d : Link) (w : Row) → i < length ls → child_of i (get_or ls i d) ws ≡ child i w
    → none_left (children_from i ls ws) ≡ leb (length ls) i
unfolding none_left children
left_some i ls ws d w h e = rw (from_cons i ls ws d h, e, lt-leb (length ls) i h)

-- whether the search stopped at the end
pub last_is : {bs : List (List ℕ)} {ls : List Link} {from : ℕ} (t : Bool) (c : Option declared.Child) → is_some c ≡ not t → Next bs ls from c
    → t ≡ leb (length ls) (stop (length ls) c).place
last_is {ls = ls} false (Some c) e x = sym (lt-leb (length ls) c.place x.inside)
last_is {ls = ls} true None e x = sym (le-leb (length ls) (length ls) (omega arith))
last_is true (Some c) e x = let z : ◌≡◌ {A = ℕ} 0 1 = cc in absurd (omega arith)
last_is false None e x = let z : ◌≡◌ {A = ℕ} 0 1 = cc in absurd (omega arith)

-- a place among a block's links
pub place_in : (words : List (List ℕ)) (i : ℕ) → i < length words → i < length (map link_of_words words)
place_in words i h = omega (arith, length-map words link_of_words)

pub child_in : (words : List (List ℕ)) (c : Option declared.Child) → IfSome c (λ x. x.place < length (map link_of_words words))
    → IfSome c (λ x. x.place < length words)
child_in words (Some c) h = omega (arith, length-map words link_of_words)
child_in words None h = tt

-- of the outcome o, the child c of a block of kind k with the links ls is next
pub record Left (r : List ℕ) (n : ℕ) (l : List (List ℕ)) (levels : ℕ) (bars : List Bool) (k : Kind) (ls : List Link) (b : List ℕ) (p : lent.Page)
    (c : declared.Child) (y : Layout) (z : List ℕ) (o : Out Shown) : Type 0 where
  pub printed : List ℕ
  pub holds : Holds n b l y z printed
  pub child_at : c.place < length ls → child_of c.place (get_or ls c.place null) y.blocks ≡ child c.place (row_at c.row b)
  pub is : o ≡ shown (pg p) (below r y levels bars k ls c.place printed)

-- the loop over the children, entered with b₀ and p₀
pub record Turning (r : List ℕ) (n : ℕ) (l : List (List ℕ)) (levels : ℕ) (bars : List Bool) (k : Kind) (ls : List Link) (b₀ : List ℕ) (p₀ : lent.Page)
    (b : List ℕ) (p : lent.Page) (c : declared.Child) : Type 0 where
  pub row : c.place < length ls → c.row < n
  pub same : (i : ℕ) → row_at i b ≡ row_at i b₀
  pub left : (y : Layout) (z v : List ℕ) → Holds n b₀ l y z v → Left r n l levels bars k ls b p c y z (shown (pg p₀) (below r y levels bars k ls 0 v))

-- the next child, among the rows of the table b
module _ (n : ℕ) (b : List ℕ) (ls : List Link) (from : ℕ) (c : declared.Child) (x : Stops (rows_of n b) ls from c) where
  next_in : c.place < length ls → c.row < n
  next_in h = omega (arith, x.row h, table_length block_row_words (λ row. row) n b)

  -- of a layout that the tables hold
  module _ {l : List (List ℕ)} {y : Layout} {z v : List ℕ} (h : Holds n b l y z v) where
    rises : Rising (map row_of_words (rows_of n b))
    rises = rw (← rows_shown h) h.rising

    next_at : c.place < length ls → child_of c.place (get_or ls c.place null) y.blocks ≡ child c.place (row_at c.row b)
    next_at d = rw (rows_shown h) (x.child_at rises d ∙ ap (child c.place) (row_shown n b c.row [] (next_in d)))

    next_rest : children_from from ls y.blocks ≡ children_from c.place ls y.blocks
    next_rest = rw (rows_shown h) (x.rest rises)

    next_left : none_left (children_from c.place ls y.blocks) ≡ leb (length ls) c.place
    next_left = go (leb (length ls) c.place) refl
      where
        go : (t : Bool) → leb (length ls) c.place ≡ t → none_left (children_from c.place ls y.blocks) ≡ leb (length ls) c.place
        go true e = left_none c.place ls y.blocks (leb-true (length ls) c.place e)
        go false e =
            let d : c.place < length ls = leb-false (length ls) c.place e in
            left_some c.place ls y.blocks null (row_at c.row b) d (next_at d)

module _ (r : List ℕ) (n : ℕ) (l : List (List ℕ)) (levels : ℕ) (bars : List Bool) (k : Kind) (ls : List Link) (b₀ : List ℕ) (p₀ : lent.Page) where
  pub turning : (c : declared.Child) → Stops (rows_of n b₀) ls 0 c → Turning r n l levels bars k ls b₀ p₀ b₀ p₀ c
  unfolding below
  turning c x = record {
    row = next_in n b₀ ls 0 c x;
    same = λ i. refl;
    left = λ y z v h. record { printed = v; holds = h; child_at = next_at n b₀ ls 0 c x h; is = rw (next_rest n b₀ ls 0 c x h) };
  }

  module _ (b : List ℕ) (p : lent.Page) (c : declared.Child) (t : Turning r n l levels bars k ls b₀ p₀ b p c) where
    -- what the child c prints
    abbrev child_node : Bool → Layout → List ℕ → Out Shown
    child_node last y v = shown (pg p) (render_tree_node r y levels (edge bars last k c.place) (row_at c.row b) v)

    module _ (d : c.place < length ls) (c' : declared.Child) (x : Stops (rows_of n b) ls (c.place + 1) c') where
      turned : (y : Layout) (z v : List ℕ) → Holds n b l y z v → child_of c.place (get_or ls c.place null) y.blocks ≡ child c.place (row_at c.row b)
          → shown (pg p) (below r y levels bars k ls c.place v)
          ≡ and_then (child_node (leb (length ls) c'.place) y v) (λ s. shown s.0 (below r y levels bars k ls c'.place s.1))
      unfolding below
      turned y z v h e =
          rw (from_cons c.place ls y.blocks null d)
          (turn_as (render_tree_node r y levels) bars k c.place (get_or ls c.place null) _ y.blocks v (pg p) (row_at c.row b) e _
          (from_next c.place ls y.blocks ∙ next_rest n b ls (c.place + 1) c' x h) _ (next_left n b ls (c.place + 1) c' x h))

      module _ {A : Type 0} (last : Bool) (is : last ≡ leb (length ls) c'.place) (w : Result A MdfError) (p' : lent.Page) (b' : List ℕ)
          (s : Printing n b l w p' b' (child_node last)) where
        pub turn : (u : A) → w ≡ Ok u → Turning r n l levels bars k ls b₀ p₀ b' p' c'
        turn u e = record { row = next_in n b ls (c.place + 1) c' x; same = λ i. s.same i ∙ t.same i; left = left }
          where
            left : (y : Layout) (z v : List ℕ) → Holds n b₀ l y z v
                → Left r n l levels bars k ls b' p' c' y z (shown (pg p₀) (below r y levels bars k ls 0 v))
            left y z v h =
                let f = t.left y z v h in
                let g : Went p' b' y z (child_node last y f.printed) = rw e at (s.told y z f.printed f.holds) in
                let j : child_node (leb (length ls) c'.place) y f.printed ≡ ok (pg p', g.printed) = rw (← is) g.is in
                record {
                  printed = g.printed;
                  holds = record { rows = g.rows; count = f.holds.count; links = f.holds.links; rising = f.holds.rising };
                  child_at = λ q. rw (s.same c'.row) (next_at n b ls (c.place + 1) c' x f.holds q);
                  is = f.is ∙ turned y z f.printed f.holds (f.child_at d) ∙ then_ok _ _ _ j;
                }

        pub turn_no : (a : MdfError) → w ≡ Err a → (y : Layout) (z v : List ℕ) → Holds n b₀ l y z v
            → Stopped a (shown (pg p₀) (below r y levels bars k ls 0 v))
        turn_no a e y z v h =
            let f = t.left y z v h in
            let g : Stopped a (child_node last y f.printed) = rw e at (s.told y z f.printed f.holds) in
            let j : child_node (leb (length ls) c'.place) y f.printed ≡ err (numbers a) = rw (← is) g.is in
            record { is = f.is ∙ turned y z f.printed f.holds (f.child_at d) ∙ then_err _ _ _ j }

    pub turned_all : length ls ≤ c.place → (y : Layout) (z v : List ℕ) → Holds n b₀ l y z v
        → Went p b y z (shown (pg p₀) (below r y levels bars k ls 0 v))
    unfolding below render_children shown emit
    turned_all d y z v h =
        let f = t.left y z v h in
        record { printed = f.printed; is = f.is ∙ rw (from_end c.place ls y.blocks d); rows = f.holds.rows }

-- one step after the other goes on with the same
pub same_once : {p : Printer} → Same p p
same_once = record { file = refl; links = refl; n = refl; blocks = refl; page = refl; out = refl }

pub same_twice : {p q s : Printer} → Same p q → Same q s → Same p s
same_twice h k = record {
  file = k.file ∙ h.file;
  links = k.links ∙ h.links;
  n = k.n ∙ h.n;
  blocks = k.blocks ∙ h.blocks;
  page = k.page ∙ h.page;
  out = k.out ∙ h.out;
}

-- what the node of the row w prints that is reached by the edge s
abbrev by_edge : List ℕ → lent.Page → Row → Edge → ℕ → Layout → List ℕ → Out Shown
by_edge r p w s levels y v = shown (pg p) (render_tree_node r y levels s w v)

-- by what the printer reads from the start
as_first : {A : Type 0} {p₀ p : Printer} (h : Same p₀ p) (a : Result A MdfError) (q : lent.Page) (b : List ℕ) (w : Row) (s : Edge) (levels : ℕ)
    → Printing p.n p.blocks.now p.links.now a q b (by_edge p.file.now p.page.now w s levels)
    → Printing p₀.n p.blocks.now p₀.links.now a q b (by_edge p₀.file.now p.page.now w s levels)
as_first h a q b w s levels x = rw (h.n, h.links, h.file) at x

-- what a child prints, by its edge
pub child_prints : {A : Type 0} {p₀ p : Printer} (h : Same p₀ p) (a : Result A MdfError) (q : lent.Page) (b : List ℕ) (w : Row) (e : link.Edge)
    (levels : ℕ) (last : Bool) (bars : List Bool)
    → length p.bars ≡ max_levels → 1 ≤ levels → levels ≤ max_levels → take (max_levels - levels) p.bars ≡ take (max_levels - levels) bars
    → Printing p.n p.blocks.now p.links.now a q b
    (by_edge p.file.now p.page.now w (edge_of (set p.bars (max_levels - levels) last) (max_levels - (levels - 1)) (Some e)) (levels - 1))
    → Printing p₀.n p.blocks.now p₀.links.now a q b
    (by_edge p₀.file.now p.page.now w (edge (take (max_levels - levels) bars) last (kind_named e.kind) e.place) (levels - 1))
child_prints {p = p} h a q b w e levels last bars long k m x s =
    let f = child_edge p.bars levels last e long k m ∙ ap (λ (xs : List Bool). edge xs last (kind_named e.kind) e.place) x in
    as_first h a q b w _ (levels - 1)
    (subst (λ (s : Edge). Printing p.n p.blocks.now p.links.now a q b (by_edge p.file.now p.page.now w s (levels - 1))) f s)

-- a refusal that `?` hands up
pub handed : {A : Type 0} {n : ℕ} {b : List ℕ} {l : List (List ℕ)} {p' : lent.Page} {b' : List ℕ} {o : Layout → List ℕ → Out Shown} {d : MdfError}
    (q : Result A MdfError) → IsErrAnd q (λ x. x ≡ d) → Printing {A = A} n b l (Err d) p' b' o → Printing n b l q p' b' o
handed (Ok u) h x = absurd h
handed (Err e) h x = rw h x

-- the links to follow, of a node that was opened
pub followed : {r : List ℕ} {n : ℕ} {b : List ℕ} {l : List (List ℕ)} {levels : ℕ} {bars : List Bool} {q : Option BlockInfo} {w : BlockInfo}
    {p' : lent.Page} {b' : List ℕ} {o : Layout → List ℕ → Out Shown}
    → q ≡ Some w → Opening r n b l levels bars (Ok q) p' b' o → (w.first_link + w.link_count ≤ length l) × (1 ≤ levels)
followed e s = rw e at s.inside

-- a block's own links, as the code has them
pub own_links : (l : List (List ℕ)) (w : BlockInfo)
    → map link_of_words (take (w.first_link + w.link_count - w.first_link) (drop w.first_link l)) ≡ links_of (map link_of_words l) (row_of w)
unfolding links_of row_of
own_links l w =
    let count : w.first_link + w.link_count - w.first_link ≡ w.link_count = omega arith in
    rw (count, drop-map link_of_words w.first_link l, take-map)

-- a node from its opening on, with links to follow: a child refuses; all children are printed
module _ (r : List ℕ) (n : ℕ) (b : List ℕ) (l : List (List ℕ)) (levels : ℕ) (bars : List Bool) (p₁ : lent.Page) (b₁ : List ℕ)
    (o : Layout → List ℕ → Out Shown) (q : Result (Option BlockInfo) MdfError) (s : Opening r n b l levels bars q p₁ b₁ o) where
  module _ (w : BlockInfo) (e : q ≡ Ok (Some w)) (p' : lent.Page) (b' : List ℕ) (g : (i : ℕ) → row_at i b' ≡ row_at i b₁) where
    into : (y : Layout) (z v : List ℕ) → Holds n b l y z v → Into r n l levels bars (row_of w) p₁ b₁ y z (o y v)
    into y z v h = rw e at (s.told y z v h)

    abbrev rest : Layout → List ℕ → Out Shown
    rest y v = shown (pg p₁) (below r y (levels - 1) bars (row_of w).kind (links_of (map link_of_words l) (row_of w)) 0 v)

    pub refused_below : {A : Type 0} (d : MdfError) → ((y : Layout) (z v : List ℕ) → Holds n b₁ l y z v → Stopped d (rest y v))
        → Printing {A = A} n b l (Err d) p' b' o
    refused_below d f = record {
      told = λ y z v h. let t = into y z v h in record { is = t.is ∙ (f y z t.printed t.holds).is };
      same = λ i. g i ∙ s.same i;
    }

    pub printed_below : {A : Type 0} (u : A) → ((y : Layout) (z v : List ℕ) → Holds n b₁ l y z v → Went p' b' y z (rest y v))
        → Printing n b l (Ok u) p' b' o
    printed_below u f = record {
      told = λ y z v h. let t = into y z v h in let x = f y z t.printed t.holds in record { printed = x.printed; is = t.is ∙ x.is; rows = x.rows };
      same = λ i. g i ∙ s.same i;
    }

-- a root has all levels and no edge
pub root_prints : {A : Type 0} {p₀ p : Printer} (h : Same p₀ p) (a : Result A MdfError) (q : lent.Page) (b : List ℕ) (w : Row)
    → Printing p.n p.blocks.now p.links.now a q b (by_edge p.file.now p.page.now w (edge_of p.bars (max_levels - max_levels) None) max_levels)
    → Printing p₀.n p.blocks.now p₀.links.now a q b (by_edge p₀.file.now p.page.now w root max_levels)
unfolding edge_of
root_prints h a q b w s = as_first h a q b w root max_levels s

-- the loop over the roots: what the rows from i on print is left of the outcome o
pub record LeftRoots (r : List ℕ) (n : ℕ) (l : List (List ℕ)) (b : List ℕ) (p : lent.Page) (i : ℕ) (y : Layout) (z : List ℕ)
    (o : Out Shown) : Type 0 where
  pub printed : List ℕ
  pub holds : Holds n b l y z printed
  pub is : o ≡ shown (pg p) (roots r y (drop i y.blocks) printed)

pub record Rooting (r : List ℕ) (n : ℕ) (l : List (List ℕ)) (b₀ : List ℕ) (p₀ : lent.Page) (b : List ℕ) (p : lent.Page) (i : ℕ) : Type 0 where
  pub same : (j : ℕ) → row_at j b ≡ row_at j b₀
  pub left : (y : Layout) (z v : List ℕ) → Holds n b₀ l y z v → LeftRoots r n l b p i y z (shown (pg p₀) (roots r y y.blocks v))

module _ (r : List ℕ) (n : ℕ) (l : List (List ℕ)) (b₀ : List ℕ) (p₀ : lent.Page) where
  pub rooting : Rooting r n l b₀ p₀ b₀ p₀ 0
  rooting = record { same = λ j. refl; left = λ y z v h. record { printed = v; holds = h; is = refl } }

  module _ (b : List ℕ) (p : lent.Page) (i : ℕ) (t : Rooting r n l b₀ p₀ b p i) where
    module _ (k : i < n) where
      rows_from : (y : Layout) (z v : List ℕ) → Holds n b l y z v → drop i y.blocks ≡ row_at i b ∷ drop (i + 1) y.blocks
      rows_from y z v h =
          let s : suc i ≡ i + 1 = omega arith in
          drop-cons y.blocks i (row_at i b) (omega (arith, h.count)) ∙ rw (row_held h i (row_at i b) k, s)

      pub root_listed : (get_or b (mark_at i) 0 ≡ 0 → ⊥) → Rooting r n l b₀ p₀ b p (i + 1)
      root_listed c = record { same = t.same; left = left }
        where
          left : (y : Layout) (z v : List ℕ) → Holds n b₀ l y z v → LeftRoots r n l b p (i + 1) y z (shown (pg p₀) (roots r y y.blocks v))
          left y z v h =
              let s = t.left y z v h in
              let e : elem (row_at i b).off s.printed ≡ true = bit_true (elem (row_at i b).off s.printed) (λ x. c (mark_held s.holds i k ∙ x)) in
              record {
                printed = s.printed;
                holds = s.holds;
                is = s.is ∙ rw (rows_from y z s.printed s.holds) (root_again r y (row_at i b) (drop (i + 1) y.blocks) s.printed (pg p) e);
              }

      -- what the root prints
      abbrev at_root : Layout → List ℕ → Out Shown
      at_root y v = shown (pg p) (render_tree_node r y max_levels root (row_at i b) v)

      module _ {A : Type 0} (c : get_or b (mark_at i) 0 ≡ 0) (w : Result A MdfError) (p' : lent.Page) (b' : List ℕ)
          (f : Printing n b l w p' b' at_root) where
        begun : (y : Layout) (z v : List ℕ) → Holds n b l y z v
            → shown (pg p) (roots r y (drop i y.blocks) v) ≡ and_then (at_root y v) (λ q. shown q.0 (roots r y (drop (i + 1) y.blocks) q.1))
        begun y z v h =
            let e : elem (row_at i b).off v ≡ false = bit_false (elem (row_at i b).off v) (sym (mark_held h i k) ∙ c) in
            rw (rows_from y z v h) (root_new r y (row_at i b) (drop (i + 1) y.blocks) v (pg p) e)

        pub root_printed : (u : A) → w ≡ Ok u → Rooting r n l b₀ p₀ b' p' (i + 1)
        root_printed u e = record { same = λ j. f.same j ∙ t.same j; left = left }
          where
            left : (y : Layout) (z v : List ℕ) → Holds n b₀ l y z v → LeftRoots r n l b' p' (i + 1) y z (shown (pg p₀) (roots r y y.blocks v))
            left y z v h =
                let s = t.left y z v h in
                let g : Went p' b' y z (at_root y s.printed) = rw e at (f.told y z s.printed s.holds) in
                record {
                  printed = g.printed;
                  holds = record { rows = g.rows; count = s.holds.count; links = s.holds.links; rising = s.holds.rising };
                  is = s.is ∙ begun y z s.printed s.holds ∙ then_ok _ _ _ g.is;
                }

        pub root_refused : (d : MdfError) → w ≡ Err d → Printing {A = A} n b₀ l (Err d) p' b' (λ y v. shown (pg p₀) (roots r y y.blocks v))
        root_refused d e = record { told = told; same = λ j. f.same j ∙ t.same j }
          where
            told : (y : Layout) (z v : List ℕ) → Holds n b₀ l y z v → Stopped d (shown (pg p₀) (roots r y y.blocks v))
            told y z v h =
                let s = t.left y z v h in
                let g : Stopped d (at_root y s.printed) = rw e at (f.told y z s.printed s.holds) in
                record { is = s.is ∙ begun y z s.printed s.holds ∙ then_err _ _ _ g.is }

    pub rooted : {A : Type 0} (u : A) → n ≤ i → Printing n b₀ l (Ok u) p b (λ y v. shown (pg p₀) (roots r y y.blocks v))
    unfolding roots shown emit
    rooted u k = record { told = told; same = t.same }
      where
        told : (y : Layout) (z v : List ℕ) → Holds n b₀ l y z v → Went p b y z (shown (pg p₀) (roots r y y.blocks v))
        told y z v h =
            let s = t.left y z v h in
            let e : drop i y.blocks ≡ [] = drop_of_length-le y.blocks {i = i} (omega (arith, s.holds.count)) in
            record { printed = s.printed; is = s.is ∙ rw e; rows = s.holds.rows }

-- the whole tree, from its page
shown_back : (p q : Page) (v : List ℕ) (o : Out Printed) → shown p o ≡ ok (q, v) → (t : List ℕ) × (o ≡ ok (t, v)) × (q ≡ emit p t)
unfolding shown
shown_back p q v (ok (t, u)) e =
    let f : ◌≡◌ {A = Shown} (emit p t, u) (q, v) = cc in
    let g : u ≡ v = ap (λ (x : Shown). x.1) f in
    (t, rw g, sym (ap (λ (x : Shown). x.0) f))
shown_back p q v (err d) e = let z : ◌≡◌ {A = ℕ} 0 1 = cc in absurd (omega arith)

shown_no : (p : Page) (d : Refusal) (o : Out Printed) → shown p o ≡ err d → o ≡ err d
unfolding shown
shown_no p d (ok q) e = let z : ◌≡◌ {A = ℕ} 0 1 = cc in absurd (omega arith)
shown_no p d (err f) e = cc

module _ {A : Type 0} (r : List ℕ) (n : ℕ) (b : List ℕ) (l : List (List ℕ)) (p : lent.Page) (p' : lent.Page) (b' b'' out out' : List ℕ)
    (from : p.out.now ≡ out) (start : p.at ≡ 0) (y : Layout) (z : List ℕ) (h : Holds n b l y z []) where
  pub tree_met : (u : A) (a : ℕ) → Printing n b l (Ok u) p' b' (λ y v. shown (pg p) (roots r y y.blocks v)) → a ≡ p'.at → out' ≡ p'.out.now → b'' ≡ b'
      → TreeMet (Ok a) out out' b'' y.blocks z (to_tree r y)
  unfolding to_tree
  tree_met u a f i e k =
      let g = f.told y z [] h in
      let s = shown_back (pg p) (pg p') g.printed (roots r y y.blocks []) g.is in
      record { text = s.0; printed = g.printed; is = s.1; wrote = record { is = rw (i, e, ← from, ← start) s.2 }; rows = k ∙ g.rows }

  pub tree_refused : (d : MdfError) (q : Result ℕ MdfError) → IsErrAnd q (λ x. x ≡ d)
      → Printing {A = A} n b l (Err d) p' b' (λ y v. shown (pg p) (roots r y y.blocks v))
      → TreeMet q out out' b'' y.blocks z (to_tree r y)
  unfolding to_tree
  tree_refused d (Ok u) e f = absurd e
  tree_refused d (Err x) e f = record { is = rw e (shown_no (pg p) (numbers d) (roots r y y.blocks []) (f.told y z [] h).is) }
