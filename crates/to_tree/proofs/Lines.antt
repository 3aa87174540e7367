-- Laws of the prefix of a line. Assumes nothing.
use Rattle.std.proofs.Common.{◌≡◌, refl, sym, ap, ◌∙◌, Bool, false, Option, Some, None, ℕ, zero, suc, ◌+◌}
use Rattle.std.proofs.Common.{◌-◌, ◌≤◌, ◌<◌, List, [], ◌∷◌, ◌++◌, length, get_or, take, set, length-append, add-one, arith}
use Rattle.std.proofs.Math.Seq.{take-suc, take-take, take-set-le, get_or-set_same, length-take-le, get_or-take, take_at, get_or-append_seam}
use Rattle.fmt.specs.Text.{Writes}
use Rattle.fmt.specs.declared.Page.{Page}
use Rattle.fmt.proofs.Text.{writes_none, writes_then}
use Rattle.std.specs.Option.{IfNone}
use Rattle.mdf4.specs.Tree.{edge, bar, prefix_text, edge_text, child_prefix, max_levels}
use Rattle.mdf4.proofs.TreeCode.{bars_snoc}
use Rattle.blocks.specs.Kind.{kind_named}
use Rattle.to_tree.specs.Lines.{edge_of}
use Rattle.to_tree.specs.declared.line.Edge as link

pub no_bars : (p : Page) → Writes p (prefix_text []) p
unfolding prefix_text
no_bars p = writes_none p

-- one bar more
pub then_bar : (bars : List Bool) (i : ℕ) {p q s : Page} → i < length bars → Writes p (prefix_text (take i bars)) q
    → Writes q (bar (get_or bars i false)) s
    → Writes p (prefix_text (take (i + 1) bars)) s
then_bar bars i h w v = rw (add-one, take-suc bars i false h, bars_snoc (take i bars) (get_or bars i false)) (writes_then w v)

-- the edge by the bars up to it alone
pub edge_cut : (bars : List Bool) (depth : ℕ) (e : Option link.Edge) → depth ≤ length bars
    → edge_of (take depth bars) (length (take depth bars)) e ≡ edge_of bars depth e
unfolding edge_of
edge_cut bars zero e h = refl
edge_cut bars (suc depth) None h = rw (length-take-le (suc depth) bars h)
edge_cut bars (suc depth) (Some e) h =
    rw (length-take-le (suc depth) bars h, take-take depth (suc depth) bars (omega arith), get_or-take (suc depth) bars depth false (omega arith))

-- the edge by its own bar and those above it
pub edge_last : (bars above : List Bool) (last : Bool) (e : link.Edge) → bars ≡ above ++ last ∷ []
    → edge_of bars (length bars) (Some e) ≡ edge above last (kind_named e.kind) e.place
unfolding edge_of
edge_last bars above last e q =
    let n : length (above ++ last ∷ []) ≡ suc (length above) = omega (arith, length-append above (last ∷ [])) in
    rw (q, n, take_at above (last ∷ []) (length above) refl, get_or-append_seam above last [] false)

-- no bar, or no link
pub no_bar : (bars : List Bool) (e : Option link.Edge) → length bars ≡ 0 → edge_text (edge_of bars (length bars) e) ≡ []
unfolding edge_of edge_text
no_bar bars e z = rw z

pub no_link : (bars : List Bool) (depth : ℕ) (e : Option link.Edge) → e ≡ None → edge_text (edge_of bars depth e) ≡ []
unfolding edge_of edge_text
no_link bars zero e z = refl
no_link bars (suc depth) e z = rw z

-- the bars of a node's children; only a root has no link
pub bars_below : (bars : List Bool) (depth : ℕ) (e : Option link.Edge) → IfNone e (depth ≡ 0) → depth ≤ length bars
    → child_prefix (edge_of bars depth e) ≡ take depth bars
unfolding child_prefix edge_of
bars_below bars zero e r h = refl
bars_below bars (suc depth) None r h = absurd (omega arith)
bars_below bars (suc depth) (Some e) r h = sym (take-suc bars depth false h)

-- a child's edge, once its bar stands behind those above it
pub child_edge : (bars : List Bool) (levels : ℕ) (last : Bool) (e : link.Edge) → length bars ≡ max_levels → 1 ≤ levels → levels ≤ max_levels
    → edge_of (set bars (max_levels - levels) last) (max_levels - (levels - 1)) (Some e)
    ≡ edge (take (max_levels - levels) bars) last (kind_named e.kind) e.place
unfolding edge_of
child_edge bars levels last e h k q =
    let depth : ℕ = max_levels - levels in
    let d : max_levels - (levels - 1) ≡ suc depth = omega arith in
    rw (d, take-set-le depth bars depth last (omega arith), get_or-set_same bars depth last false (omega arith))

-- a child leaves the bars above it
pub bars_kept : (bars bars' : List Bool) (levels : ℕ) (last : Bool)
    → take (max_levels - (levels - 1)) bars' ≡ take (max_levels - (levels - 1)) (set bars (max_levels - levels) last)
    → take (max_levels - levels) bars' ≡ take (max_levels - levels) bars
bars_kept bars bars' levels last e =
    sym (take-take (max_levels - levels) (max_levels - (levels - 1)) bars' (omega arith)) ∙ ap (take (max_levels - levels)) e
    ∙ take-take (max_levels - levels) (max_levels - (levels - 1)) (set bars (max_levels - levels) last) (omega arith)
    ∙ take-set-le (max_levels - levels) bars (max_levels - levels) last (omega arith)
