-- An accepted tree has printed every listed block, so that every tree mark is 1.
use mathlib.Core.Path.{◌≡◌, refl, sym, ap, subst}
use mathlib.Core.Bool.{Bool, true, false}
use mathlib.Core.List.{List, [], ◌∷◌, ◌++◌}
use Prim.Native.Nat.{ℕ, zero, suc}
use lib.Dec.{eqb}
use borrow.Author.Tests.{eq-eqb}
use Rattle.mdf4.specs.Bytes.{bit}
use Rattle.mdf4.specs.Act.{Out, ok, err, and_then, Kind, Row, elem, check}
use Rattle.mdf4.specs.Layout.{Layout}
use Rattle.mdf4.specs.Listing.{links_of}
use Rattle.mdf4.specs.Tree.{Edge, root, Child, Printed, before, render_children, node_by, render_tree_node, root_by, roots, to_tree, node_line, child_prefix, children, max_levels}
use Rattle.mdf4.specs.Answers.{Lent, Made, made, to_tree_made, fitted, laid}
use Rattle.mdf4.proofs.Bytes.{or_left, or_right}
use Rattle.mdf4.proofs.Results.{and_then_ok, never}
use Rattle.mdf4.proofs.Lists.{All, all_map}

-- what is printed before stays printed
pub record Keeps (v : List ℕ) (m : Out Printed) : Type 0 where
  pub kept : (p : Printed) → m ≡ ok p → (x : ℕ) → elem x v ≡ true → elem x p.1 ≡ true

ok_is : (p q : Printed) → ◌≡◌ {A = Out Printed} (ok p) (ok q) → p ≡ q
ok_is p q e = cc

before_ok : (t : List ℕ) (m : Out Printed) (p : Printed) → before t m ≡ ok p → (q : Printed) × (m ≡ ok q) × (q.1 ≡ p.1)
unfolding before
before_ok t (ok q) p e = (q, refl, ap (λ (z : Printed). z.1) (ok_is (t ++ q.0, q.1) p e))
before_ok t (err e) p q = never (sym q)

keeps_before : (v t : List ℕ) (m : Out Printed) → Keeps v m → Keeps v (before t m)
keeps_before v t m k = record { kept = λ p e x h. let b = before_ok t m p e in rw (← b.2) (k.kept b.0 b.1 x h) }

keeps_then : (v : List ℕ) (m : Out Printed) (f : Printed → Out Printed) → Keeps v m → ((p : Printed) → Keeps p.1 (f p)) → Keeps v (and_then m f)
keeps_then v m f k g = record { kept = λ p e x h. let q = and_then_ok m f p e in (g q.0).kept p q.2 x (k.kept q.0 q.1 x h) }

keeps_done : (v t : List ℕ) → Keeps v (ok (t, v))
keeps_done v t = record { kept = λ p e x h. rw (← ap (λ (z : Printed). z.1) (ok_is (t, v) p e)) h }

keeps_more : (v : List ℕ) (a : ℕ) (m : Out Printed) → Keeps (a ∷ v) m → Keeps v m
unfolding elem
keeps_more v a m k = record { kept = λ p e x h. k.kept p e x (or_right (eqb x a) (elem x v) h) }

keeps_over : (f : Edge → Row → List ℕ → Out Printed) → ((s : Edge) (w : Row) (v : List ℕ) → Keeps v (f s w v))
    → (bars : List Bool) (k : Kind) (cs : List Child) (v : List ℕ) → Keeps v (render_children f bars k cs v)
unfolding render_children
keeps_over f g bars k [] v = keeps_done v []
keeps_over f g bars k (c ∷ cs) v = keeps_then v _ _ (g _ c.row v) (λ p. keeps_before p.1 p.0 _ (keeps_over f g bars k cs p.1))

module _ (r : List ℕ) (y : Layout) where
  keeps_node_by : (f : Edge → Row → List ℕ → Out Printed) → ((s : Edge) (w : Row) (v : List ℕ) → Keeps v (f s w v))
      → (s : Edge) (w : Row) (v : List ℕ) (b : Bool) → Keeps v (node_by b f r y s w v)
  unfolding node_by
  keeps_node_by f g s w v true = keeps_done v _
  keeps_node_by f g s w v false = keeps_before v _ _ (keeps_more v w.off _ (keeps_over f g (child_prefix s) w.kind (children 0 (links_of y.state.links w) y.blocks) (w.off ∷ v)))

  pub keeps_node : (levels : ℕ) (s : Edge) (w : Row) (v : List ℕ) → Keeps v (render_tree_node r y levels s w v)
  unfolding render_tree_node
  keeps_node zero s w v = record { kept = λ p e. never (sym e) }
  keeps_node (suc levels) s w v = keeps_node_by (render_tree_node r y levels) (keeps_node levels) s w v (elem w.off v)

  -- a node's own offset is printed
  own_by : (f : Edge → Row → List ℕ → Out Printed) → ((s : Edge) (w : Row) (v : List ℕ) → Keeps v (f s w v))
      → (s : Edge) (w : Row) (v : List ℕ) (b : Bool) → elem w.off v ≡ b → (p : Printed) → node_by b f r y s w v ≡ ok p → elem w.off p.1 ≡ true
  unfolding node_by elem
  own_by f g s w v true z p e = rw (← ap (λ (q : Printed). q.1) (ok_is (node_line r s w true, v) p e)) z
  own_by f g s w v false z p e =
      let b = before_ok _ _ p e in
      rw (← b.2) ((keeps_over f g (child_prefix s) w.kind (children 0 (links_of y.state.links w) y.blocks) (w.off ∷ v)).kept b.0 b.1 w.off (or_left _ _ (eq-eqb w.off w.off refl)))

  own_printed : (levels : ℕ) (s : Edge) (w : Row) (v : List ℕ) (p : Printed) → render_tree_node r y levels s w v ≡ ok p → elem w.off p.1 ≡ true
  unfolding render_tree_node
  own_printed zero s w v p e = never (sym e)
  own_printed (suc levels) s w v p e = own_by (render_tree_node r y levels) (keeps_node levels) s w v (elem w.off v) refl p e

  root_printed : (w : Row) (v : List ℕ) (b : Bool) → elem w.off v ≡ b → (p : Printed) → root_by b r y w v ≡ ok p → elem w.off p.1 ≡ true
  unfolding root_by
  root_printed w v true z p e = rw (← ap (λ (q : Printed). q.1) (ok_is ([], v) p e)) z
  root_printed w v false z p e = own_printed max_levels root w v p e

  keeps_root : (w : Row) (v : List ℕ) (b : Bool) → Keeps v (root_by b r y w v)
  unfolding root_by
  keeps_root w v true = keeps_done v []
  keeps_root w v false = keeps_node max_levels root w v

  keeps_roots : (ws : List Row) (v : List ℕ) → Keeps v (roots r y ws v)
  unfolding roots
  keeps_roots [] v = keeps_done v []
  keeps_roots (w ∷ ws) v = keeps_then v _ _ (keeps_root w v (elem w.off v)) (λ p. keeps_before p.1 p.0 _ (keeps_roots ws p.1))

  roots_printed : (ws : List Row) (v : List ℕ) (p : Printed) → roots r y ws v ≡ ok p → All (λ w. elem w.off p.1 ≡ true) ws
  unfolding roots
  roots_printed [] v p e = tt
  roots_printed (w ∷ ws) v p e =
      let q = and_then_ok (root_by (elem w.off v) r y w v) _ p e in
      let b = before_ok q.0.0 (roots r y ws q.0.1) p q.2 in
      let own = root_printed w v (elem w.off v) refl q.0 q.1 in (
        rw (← b.2) ((keeps_roots ws q.0.1).kept b.0 b.1 w.off own),
        subst (λ (x : List ℕ). All (λ w. elem w.off x ≡ true) ws) b.2 (roots_printed ws q.0.1 b.0 b.1),
      )

  pub all_printed : (p : Printed) → to_tree r y ≡ ok p → All (λ w. elem w.off p.1 ≡ true) y.blocks
  unfolding to_tree
  all_printed p e = roots_printed y.blocks [] p e

-- so every tree mark is 1
pub marks_are_1 : (n : Lent) (r : List ℕ) (m : Made) → to_tree_made n r ≡ ok m → All (λ w. bit (elem w.off m.printed) ≡ 1) m.layout.blocks
unfolding to_tree_made fitted bit
marks_are_1 n r m e =
    let y = and_then_ok (laid n r) _ m e in
    let p = and_then_ok (to_tree r y.0) _ m y.2 in
    let q = and_then_ok (check _ _) _ m p.2 in
    let z : made y.0 p.0.1 p.0.0 ≡ m = cc in
    rw (← z) (all_map _ _ (λ w h. rw h) y.0.blocks (all_printed r y.0 p.0 p.1))
