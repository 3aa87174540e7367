-- Laws of a node that is opened: refused, done with its line, or with links to follow. Assumes nothing.
use Rattle.std.proofs.Common.{◌≡◌, refl, sym, ap, ◌∙◌, ℕ, suc, ◌+◌, ◌*◌, ◌-◌, ◌≤◌, ◌<◌, Bool, true}
use Rattle.std.proofs.Common.{false, List, [], ◌∷◌, Option, Some, None, Ok, Err, length, get_or, take, set, length-set, arith}
use Rattle.std.specs.Option.{IfNone}
use Rattle.fmt.specs.Text.{page, Writes}
use Rattle.fmt.specs.declared.Page.{Page}
use Rattle.mdf4.specs.Act.{Out, Row, elem}
use Rattle.mdf4.specs.Answers.{block_row_words}
use Rattle.mdf4.specs.Layout.{Layout}
use Rattle.mdf4.specs.Tree.{node_line, render_tree_node, max_levels}
use Rattle.mdf4.proofs.TreeCode.{Shown, shown, shown_deep, shown_again, shown_new}
use Rattle.blocks.specs.declared.error.MdfError.TheVariants.{TooDeep}
use Rattle.mdf4.proofs.Good.{Readable}
use Rattle.tables.specs.Rows.{row_at, row_of, row_of_words}
use Rattle.tables.specs.Laid.{Printable}
use Rattle.tables.proofs.Tables.{table_length}
use Rattle.tables.specs.declared.BlockInfo.{BlockInfo}
use Rattle.to_tree.specs.Ready.{Ready, rows_of}
use Rattle.to_tree.specs.Search.{children_from}
use Rattle.to_tree.specs.Lines.{edge_of}
use Rattle.to_tree.specs.Printing.{Holds, Went, Into, below, Opening}
use Rattle.to_tree.specs.declared.line.Edge.{Edge}
use Rattle.to_tree.proofs.Lines.{bars_below, edge_cut}
use Rattle.to_tree.proofs.Marking.{mark_at, mark_kept, bit_true, bit_false, row_shown, mark_held, holds_marked}

abbrev pub pg : Page → Rattle.fmt.specs.Text.Page
pg p = page p.out.now p.at

-- what a node prints, at the row i of the table b
abbrev pub node : List ℕ → List ℕ → Page → List Bool → ℕ → Option Edge → ℕ → Layout → List ℕ → Out Shown
node r b p bars i link levels y v = shown (pg p) (render_tree_node r y levels (edge_of bars (max_levels - levels) link) (row_at i b) v)

-- the block that was loaded
pub block_is : (n : ℕ) (b : List ℕ) (rows : List (List ℕ)) (i : ℕ) (d : List ℕ) (block : BlockInfo) → rows ≡ rows_of n b → i < n
    → row_of block ≡ row_of_words (get_or rows i d) → row_of block ≡ row_at i b
block_is n b rows i d block e h q = q ∙ ap (λ (ws : List (List ℕ)). row_of_words (get_or ws i d)) e ∙ row_shown n b i d h

pub row_inside : (n : ℕ) (b : List ℕ) (rows : List (List ℕ)) (i : ℕ) → rows ≡ rows_of n b → i < n → i < length rows
row_inside n b rows i e h = rw (e, table_length block_row_words (λ row. row) n b) h

pub ready_of : {r : List ℕ} {l : List (List ℕ)} (n : ℕ) (b : List ℕ) → n * block_row_words ≤ length b → Printable r (rows_of n b) l → Ready r l n b
ready_of n b h p = record {
  rows_fit = h;
  row = λ i k. rw (row_shown n b i [] k) at (p.row i (rw (table_length block_row_words (λ row. row) n b) k));
}

-- of rows that are ready
module _ {r : List ℕ} {l : List (List ℕ)} {n : ℕ} {b : List ℕ} (p : Ready r l n b) (i : ℕ) where
  pub ready_marked : Ready r l n (set b (mark_at i) 1)
  ready_marked = record {
    rows_fit = omega (arith, p.rows_fit, length-set b (mark_at i) 1);
    row = λ j h. rw (mark_kept b i j) (p.row j h);
  }

  pub block_reads : (block : BlockInfo) → i < n → row_of block ≡ row_at i b → Readable r (row_of block)
  block_reads block h e = rw e ((p.row i h).readable)

  pub links_fit : (block : BlockInfo) → i < n → row_of block ≡ row_at i b → block.first_link + block.link_count ≤ length l
  unfolding row_of
  links_fit block h e = rw (← e) at ((p.row i h).links)

-- the line that was written, by all bars and by the row of the table
pub line_of : (r : List ℕ) {p q : Page} (bars : List Bool) (depth : ℕ) (link : Option Edge) (block : BlockInfo) (w : Row) (t t' : Bool)
    → depth ≤ length bars → row_of block ≡ w → t ≡ t'
    → Writes p (node_line r (edge_of (take depth bars) (length (take depth bars)) link) (row_of block) t) q
    → Writes p (node_line r (edge_of bars depth link) w t') q
line_of r bars depth link block w t t' h e f x = rw (← e, ← f, ← (edge_cut bars depth link h)) x

module _ (r : List ℕ) (n : ℕ) (b : List ℕ) (l : List (List ℕ)) (bars : List Bool) (p : Page) (i : ℕ) (link : Option Edge) (h : i < n)
    (block : BlockInfo) (is : row_of block ≡ row_at i b) where
  pub open_deep : (levels : ℕ) → levels ≡ 0
      → Opening r n b l levels (take (max_levels - levels) bars) (Err (TooDeep block.offset 4096)) p b (node r b p bars i link levels)
  unfolding row_of
  open_deep levels e = record {
    told = λ y z v q. record { is = rw (e, shown_deep r y (pg p) (edge_of bars (max_levels - 0) link) (row_at i b) v, ← is) };
    same = λ j. refl;
    inside = tt;
  }

  module _ (levels : ℕ) (k : levels ≡ 0 → ⊥) (q : Page) where
    suc_levels : levels ≡ suc (levels - 1)
    suc_levels = omega arith

    deeper : (y : Layout) (v : List ℕ)
        → node r b p bars i link levels y v
        ≡ shown (pg p) (render_tree_node r y (suc (levels - 1)) (edge_of bars (max_levels - levels) link) (row_at i b) v)
    deeper y v = ap (λ (j : ℕ). shown (pg p) (render_tree_node r y j (edge_of bars (max_levels - levels) link) (row_at i b) v)) suc_levels

    pub open_done : (get_or b (mark_at i) 0 ≡ 0 → ⊥) → Writes p (node_line r (edge_of bars (max_levels - levels) link) (row_at i b) true) q
        → Opening r n b l levels (take (max_levels - levels) bars) (Ok None) q b (node r b p bars i link levels)
    open_done c w = record { told = told; same = λ j. refl; inside = tt }
      where
        told : (y : Layout) (z v : List ℕ) → Holds n b l y z v → Went q b y z (node r b p bars i link levels y v)
        told y z v x =
            let e : elem (row_at i b).off v ≡ true = bit_true (elem (row_at i b).off v) (λ u. c (mark_held x i h ∙ u)) in
            record {
              printed = v;
              is = deeper y v ∙ shown_again r y (pg p) (edge_of bars (max_levels - levels) link) (row_at i b) v (levels - 1) e ∙ rw w.wrote.is;
              rows = x.rows;
            }

    module _ (root : IfNone link (levels ≡ max_levels)) (fits : block.first_link + block.link_count ≤ length l) (long : length bars ≡ max_levels)
        (c : get_or b (mark_at i) 0 ≡ 0) where
      no_depth : (e : Option Edge) → IfNone e (levels ≡ max_levels) → IfNone e (max_levels - levels ≡ 0)
      no_depth (Some e) x = tt
      no_depth None x = omega arith

      pub open_below : Writes p (node_line r (edge_of bars (max_levels - levels) link) (row_at i b) false) q
          → Opening r n b l levels (take (max_levels - levels) bars) (Ok (Some block)) q (set b (mark_at i) 1) (node r b p bars i link levels)
      unfolding below children_from
      open_below w = record { told = told; same = λ j. mark_kept b i j; inside = (fits, omega (arith, suc_levels)) }
        where
          told : (y : Layout) (z v : List ℕ) → Holds n b l y z v
              → Into r n l levels (take (max_levels - levels) bars) (row_of block) q (set b (mark_at i) 1) y z (node r b p bars i link levels y v)
          told y z v x =
              let e : elem (row_at i b).off v ≡ false = bit_false (elem (row_at i b).off v) (sym (mark_held x i h) ∙ c) in
              record {
                printed = (row_at i b).off ∷ v;
                holds = holds_marked x i h;
                is = deeper y v ∙ shown_new r y (pg p) (edge_of bars (max_levels - levels) link) (row_at i b) v (levels - 1) e
                    ∙ rw (← w.wrote.is, bars_below bars (max_levels - levels) link (no_depth link root) (omega arith), is, x.links);
              }
