-- Laws for code that prints the tree: a node as an equation between pages, its loop over the links of a row turn by turn, and the
-- tree marks of a table.
use mathlib.Core.Path.{◌≡◌, refl, sym}
use mathlib.Core.Bool.{Bool, true, false, ◌||◌}
use mathlib.Core.List.{List, [], ◌∷◌, ◌++◌, map, append_assoc, append-nil}
use Prim.Native.Nat.{ℕ, zero, suc, ◌<◌}
use native.Mathlib.Omega.{arith}
use lib.Dec.{eqb}
use lib.ListN.{length, get_or, set}
use borrow.Author.Tests.{eqb-false, eq-eqb, ne_eqb}
use Rattle.fmt.specs.Text.{Page, emit}
use Rattle.fmt.proofs.Text.{emit_append}
use Rattle.mdf4.specs.Bytes.{bit}
use Rattle.mdf4.specs.Act.{refusal, Out, ok, err, and_then, Kind, Row, Link, elem}
use Rattle.mdf4.specs.Layout.{Layout}
use Rattle.mdf4.specs.Listing.{links_of}
use Rattle.mdf4.specs.Tree.{Edge, root, edge, Child, child_at, child_of, children, none_left, bar, prefix_text, Printed, before, render_children, node_line, child_prefix, node_by, render_tree_node, root_by, roots, max_levels}
use Rattle.mdf4.proofs.Good.{offs, Distinct}

-- what a printer is held to: the page after, and the offsets printed
abbrev pub Shown : Type 0
Shown = Page × List ℕ

unfoldable pub shown : Page → Out Printed → Out Shown
shown p (ok q) = ok (emit p q.0, q.1)
shown p (err e) = err e

pub shown_before : (p : Page) (t : List ℕ) (m : Out Printed) → shown p (before t m) ≡ shown (emit p t) m
unfolding shown before
shown_before p t (ok q) = rw (emit_append p t q.0)
shown_before p t (err e) = refl

pub shown_then : (p : Page) (m : Out Printed) (g : List ℕ → Out Printed)
    → shown p (and_then m (λ q. before q.0 (g q.1))) ≡ and_then (shown p m) (λ z. shown z.0 (g z.1))
unfolding shown and_then
shown_then p (ok q) g = shown_before p q.0 (g q.1)
shown_then p (err e) g = refl

module _ (r : List ℕ) (y : Layout) (p : Page) (s : Edge) (w : Row) (v : List ℕ) where
  -- no level left
  pub shown_deep : shown p (render_tree_node r y 0 s w v) ≡ err (refusal 15 w.off max_levels 0)
  unfolding shown render_tree_node
  shown_deep = refl

  -- a block that is already listed
  pub shown_again : (k : ℕ) → elem w.off v ≡ true → shown p (render_tree_node r y (suc k) s w v) ≡ ok (emit p (node_line r s w true), v)
  unfolding shown render_tree_node node_by
  shown_again k e = rw e

  -- a new one: its line, then the links of its row
  pub shown_new : (k : ℕ) → elem w.off v ≡ false
      → shown p (render_tree_node r y (suc k) s w v)
      ≡ shown (emit p (node_line r s w false)) (render_children (render_tree_node r y k) (child_prefix s) w.kind (children 0 (links_of y.state.links w) y.blocks) (w.off ∷ v))
  unfolding render_tree_node node_by
  shown_new k e = rw e (shown_before p (node_line r s w false) _)

-- the loop over the links from place i on: no listed block at the link, one, the end
module _ (f : Edge → Row → List ℕ → Out Printed) (bars : List Bool) (k : Kind) (i : ℕ) (l : Link) (ls : List Link) (ws : List Row) (v : List ℕ) (p : Page) where
  pub turn_miss : child_of i l ws ≡ [] → shown p (render_children f bars k (children i (l ∷ ls) ws) v) ≡ shown p (render_children f bars k (children (suc i) ls ws) v)
  unfolding children
  turn_miss e = rw e

  pub turn_child : (c : Child) → child_of i l ws ≡ c ∷ []
      → shown p (render_children f bars k (children i (l ∷ ls) ws) v)
      ≡ and_then (shown p (f (edge bars (none_left (children (suc i) ls ws)) k c.place) c.row v)) (λ z. shown z.0 (render_children f bars k (children (suc i) ls ws) z.1))
  unfolding children render_children
  turn_child c e = rw e (shown_then p _ (render_children f bars k (children (suc i) ls ws)))

pub turn_end : (f : Edge → Row → List ℕ → Out Printed) (bars : List Bool) (k : Kind) (i : ℕ) (ws : List Row) (v : List ℕ) (p : Page)
    → shown p (render_children f bars k (children i [] ws) v) ≡ ok (p, v)
unfolding children render_children shown emit
turn_end f bars k i ws v p = refl

-- whether a later link leads to a listed block, link by link
module _ (i : ℕ) (l : Link) (ls : List Link) (ws : List Row) where
  pub left_miss : child_of i l ws ≡ [] → none_left (children i (l ∷ ls) ws) ≡ none_left (children (suc i) ls ws)
  unfolding children
  left_miss e = rw e

  pub left_child : (c : Child) → child_of i l ws ≡ c ∷ [] → none_left (children i (l ∷ ls) ws) ≡ false
  unfolding children none_left
  left_child c e = rw e

-- the roots, row by row
module _ (r : List ℕ) (y : Layout) (w : Row) (ws : List Row) (v : List ℕ) (p : Page) where
  pub root_again : elem w.off v ≡ true → shown p (roots r y (w ∷ ws) v) ≡ shown p (roots r y ws v)
  unfolding roots root_by and_then emit
  root_again e = rw e (shown_before p [] (roots r y ws v))

  pub root_new : elem w.off v ≡ false → shown p (roots r y (w ∷ ws) v) ≡ and_then (shown p (render_tree_node r y max_levels root w v)) (λ z. shown z.0 (roots r y ws z.1))
  unfolding roots root_by
  root_new e = rw e (shown_then p _ (roots r y ws))

-- the bars of a node's children: one piece more
pub bars_snoc : (bs : List Bool) (b : Bool) → prefix_text (bs ++ b ∷ []) ≡ prefix_text bs ++ bar b
unfolding prefix_text
bars_snoc [] b = append-nil (bar b)
bars_snoc (x ∷ bs) b = rw (bars_snoc bs b) (sym (append_assoc (bar x) (prefix_text bs) (bar b)))

-- the search for a target: the first row with that offset, or none
pub search_hit : (i t : ℕ) (ws : List Row) (j : ℕ) (d : Row) → j < length ws → (get_or ws j d).off ≡ t → ((n : ℕ) → n < j → (get_or ws n d).off ≡ t → ⊥)
    → child_at i t ws ≡ record { place = i; row = get_or ws j d } ∷ []
unfolding child_at
search_hit i t [] j d h e first = absurd (omega arith)
search_hit i t (w ∷ ws) zero d h e first = rw (eq-eqb w.off t e)
search_hit i t (w ∷ ws) (suc j) d h e first =
    rw (ne_eqb w.off t (first 0 (omega arith))) (search_hit i t ws j d (omega arith) e (λ n l q. first (suc n) (omega arith) q))

pub search_miss : (i t : ℕ) (ws : List Row) (d : Row) → ((n : ℕ) → n < length ws → (get_or ws n d).off ≡ t → ⊥) → child_at i t ws ≡ []
unfolding child_at
search_miss i t [] d none = refl
search_miss i t (w ∷ ws) d none = rw (ne_eqb w.off t (none 0 (omega arith))) (search_miss i t ws d (λ n l q. none (suc n) (omega arith) q))

-- the tree marks of a table whose rows have distinct offsets: marking row j
unfoldable pub marks : List ℕ → List Row → List ℕ
marks v ws = map (λ (w : Row). bit (elem w.off v)) ws

pub mark_is : (v : List ℕ) (ws : List Row) (j : ℕ) (d : Row) → j < length ws → get_or (marks v ws) j 0 ≡ bit (elem (get_or ws j d).off v)
unfolding marks
mark_is v [] j d h = absurd (omega arith)
mark_is v (w ∷ ws) zero d h = refl
mark_is v (w ∷ ws) (suc j) d h = mark_is v ws j d (omega arith)

neither : (x z : Bool) → (x || z) ≡ false → (x ≡ false) × (z ≡ false)
neither true z q = let w : ◌≡◌ {A = ℕ} 0 1 = cc in absurd (omega arith)
neither false z q = (refl, q)

marks_apart : (a : ℕ) (v : List ℕ) (ws : List Row) → elem a (offs ws) ≡ false → marks (a ∷ v) ws ≡ marks v ws
unfolding marks elem
marks_apart a v [] e = refl
marks_apart a v (w ∷ ws) e =
    let q = neither (eqb a w.off) (elem a (offs ws)) e in
    let n : eqb w.off a ≡ false = ne_eqb w.off a (λ z. eqb-false a w.off q.0 (sym z)) in
    let t : map (λ (w : Row). bit (elem w.off (a ∷ v))) ws ≡ map (λ (w : Row). bit (elem w.off v)) ws = marks_apart a v ws q.1 in
    rw (n, t)

other : (x : ℕ) (ws : List Row) (j : ℕ) (d : Row) → elem x (offs ws) ≡ false → j < length ws → eqb x (get_or ws j d).off ≡ false
unfolding elem
other x [] j d e h = absurd (omega arith)
other x (w ∷ ws) zero d e h = (neither (eqb x w.off) _ e).0
other x (w ∷ ws) (suc j) d e h = other x ws j d (neither (eqb x w.off) _ e).1 (omega arith)

pub marks_set : (v : List ℕ) (ws : List Row) (j : ℕ) (d : Row) → Distinct (offs ws) → j < length ws → marks ((get_or ws j d).off ∷ v) ws ≡ set (marks v ws) j 1
unfolding marks elem bit
marks_set v [] j d a h = absurd (omega arith)
marks_set v (w ∷ ws) zero d a h =
    let t : map (λ (u : Row). bit (elem u.off (w.off ∷ v))) ws ≡ map (λ (u : Row). bit (elem u.off v)) ws = marks_apart w.off v ws a.0 in
    rw (eq-eqb w.off w.off refl, t)
marks_set v (w ∷ ws) (suc j) d a h =
    let t : map (λ (u : Row). bit (elem u.off ((get_or ws j d).off ∷ v))) ws ≡ set (map (λ (u : Row). bit (elem u.off v)) ws) j 1 = marks_set v ws j d a.1 (omega arith) in
    rw (other w.off ws j d a.0 (omega arith), t)
