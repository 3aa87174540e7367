-- The tree: `to_tree`. A node's lines are a function of the levels left, so that the definition is structural; refusal 15 where
-- none is left.
use Rattle.std.specs.Prelude.{Bool, true, false, cond, List, [], ◌∷◌, ◌++◌, ℕ, zero, suc, eqb}
use Rattle.fmt.specs.Text.{ascii}
use Rattle.fmt.specs.Format.{format}
use Rattle.mdf4.specs.Act.{refusal, Out, ok, err, and_then, Kind, Row, Link, elem}
use Rattle.mdf4.specs.Describe.{describe, mark_text, link_name}
use Rattle.mdf4.specs.Listing.{links_of}
use Rattle.mdf4.specs.Layout.{Layout}

-- how a node is reached: as a root, or by the link at place i of a block of kind k. The prefix says of each node above it but
-- the root whether it was the last of its siblings; `last` says it of the node itself.
pub data Edge : Type 0 where
  root : Edge
  edge : List Bool → Bool → Kind → ℕ → Edge

unfoldable pub bar : Bool → List ℕ
bar last = cond last (ascii "    ") (ascii "|   ")

unfoldable pub prefix_text : List Bool → List ℕ
prefix_text [] = []
prefix_text (b ∷ bs) = bar b ++ prefix_text bs

unfoldable pub connector : Bool → List ℕ
connector last = cond last (ascii "`-- ") (ascii "|-- ")

unfoldable pub edge_text : Edge → List ℕ
edge_text root = []
edge_text (edge prefix last k i) = prefix_text prefix ++ connector last ++ ascii "(" ++ link_name k i ++ ascii ") "

-- the prefix of a node's children
unfoldable pub child_prefix : Edge → List Bool
child_prefix root = []
child_prefix (edge prefix last k i) = prefix ++ last ∷ []

unfoldable pub node_line : List ℕ → Edge → Row → Bool → List ℕ
node_line r s w already =
    edge_text s ++ mark_text w.mark ++ format (ascii " @ 0x$ [") (w.off ∷ []) ++ describe r w ++ ascii "]"
    ++ cond already (ascii " (already listed)") [] ++ ascii "\n"

-- the children: links that lead to listed offsets, each with its place
pub record Child : Type 0 where
  pub place : ℕ
  pub row : Row

unfoldable pub child_at : ℕ → ℕ → List Row → List Child
child_at i t [] = []
child_at i t (w ∷ ws) = cond (eqb w.off t) (record { place = i; row = w } ∷ []) (child_at i t ws)

unfoldable pub child_of : ℕ → Link → List Row → List Child
child_of i l ws = cond (eqb l.target 0) [] (child_at i l.target ws)

unfoldable pub children : ℕ → List Link → List Row → List Child
children i [] ws = []
children i (l ∷ ls) ws = child_of i l ws ++ children (suc i) ls ws

-- a text, and the offsets printed so far, the last one first
abbrev pub Printed : Type 0
Printed = List ℕ × List ℕ

unfoldable pub none_left : List Child → Bool
none_left [] = true
none_left (c ∷ cs) = false

-- one text after the other
unfoldable pub before : List ℕ → Out Printed → Out Printed
before t (ok p) = ok (t ++ p.0, p.1)
before t (err e) = err e

-- f at each child, the offsets printed so far handed on
unfoldable pub render_children : (Edge → Row → List ℕ → Out Printed) → List Bool → Kind → List Child → List ℕ → Out Printed
render_children f prefix k [] v = ok ([], v)
render_children f prefix k (c ∷ cs) v =
    and_then (f (edge prefix (none_left cs) k c.place) c.row v) (λ p. before p.0 (render_children f prefix k cs p.1))

-- by whether the block is already listed; f is the node one level deeper
unfoldable pub node_by : Bool → (Edge → Row → List ℕ → Out Printed) → List ℕ → Layout → Edge → Row → List ℕ → Out Printed
node_by true f r y s w v = ok (node_line r s w true, v)
node_by false f r y s w v =
    before (node_line r s w false) (render_children f (child_prefix s) w.kind (children 0 (links_of y.state.links w) y.blocks) (w.off ∷ v))

-- how deep a line may be; the root's is 1
abbrev pub max_levels : ℕ
max_levels = 4096

unfoldable pub render_tree_node : List ℕ → Layout → ℕ → Edge → Row → List ℕ → Out Printed
render_tree_node r y zero s w v = err (refusal 15 w.off max_levels 0)
render_tree_node r y (suc levels) s w v = node_by (elem w.off v) (render_tree_node r y levels) r y s w v

-- every row not yet printed is a root; the ID, at offset 0, is the first of them
unfoldable pub root_by : Bool → List ℕ → Layout → Row → List ℕ → Out Printed
root_by true r y w v = ok ([], v)
root_by false r y w v = render_tree_node r y max_levels root w v

unfoldable pub roots : List ℕ → Layout → List Row → List ℕ → Out Printed
roots r y [] v = ok ([], v)
roots r y (w ∷ ws) v = and_then (root_by (elem w.off v) r y w v) (λ p. before p.0 (roots r y ws p.1))

unfoldable pub to_tree : List ℕ → Layout → Out Printed
to_tree r y = roots r y y.blocks []
