-- What the printer of the tree answers, over n rows of the block table b and the rows l of the link table.
use Rattle.std.specs.Prelude.{◌≡◌, Bool, List, ◌++◌, Option, Some, None, Result, Ok, Err, ℕ, ◌+◌, ◌-◌, ◌≤◌, ◌<◌, length, map, take}
use Rattle.std.specs.Option.{IfNone}
use Rattle.fmt.specs.Text.{page, Wrote}
use Rattle.fmt.specs.declared.Page.{Page}
use Rattle.mdf4.specs.Bytes.{concat_map}
use Rattle.mdf4.specs.Act.{Out, ok, err, Kind, Row, Link}
use Rattle.mdf4.specs.Answers.{row_words}
use Rattle.mdf4.specs.Layout.{Layout}
use Rattle.mdf4.specs.Listing.{links_of}
use Rattle.mdf4.specs.Tree.{Printed, render_children, render_tree_node, roots, max_levels}
use Rattle.mdf4.proofs.Order.{Rising}
use Rattle.mdf4.proofs.TreeCode.{Shown, shown}
use Rattle.blocks.specs.Errors.{numbers}
use Rattle.blocks.specs.declared.error.MdfError.{MdfError}
use Rattle.tables.specs.Rows.{link_of_words, row_at, row_of}
use Rattle.tables.specs.declared.BlockInfo.{BlockInfo}
use Rattle.to_tree.specs.Lines.{edge_of}
use Rattle.to_tree.specs.Search.{children_from}
use Rattle.to_tree.specs.declared.printer.Printer.{Printer}
use Rattle.to_tree.specs.declared.printer.Node.{Node}

-- the tables hold the layout y, with the offsets v printed, and the words z behind its rows
pub record Holds (n : ℕ) (b : List ℕ) (l : List (List ℕ)) (y : Layout) (z v : List ℕ) : Type 0 where
  pub rows : b ≡ concat_map (row_words v) y.blocks ++ z
  pub count : n ≡ length y.blocks
  pub links : y.state.links ≡ map link_of_words l
  pub rising : Rising y.blocks

-- the outcome o, met by the page and the table; and by a refusal
pub record Went (p : Page) (b : List ℕ) (y : Layout) (z : List ℕ) (o : Out Shown) : Type 0 where
  pub printed : List ℕ
  pub is : o ≡ ok (page p.out.now p.at, printed)
  pub rows : b ≡ concat_map (row_words printed) y.blocks ++ z

pub record Stopped {A : Type 0} (e : MdfError) (o : Out A) : Type 0 where
  pub is : o ≡ err (numbers e)

abbrev pub Told : {A : Type 0} → Result A MdfError → Page → List ℕ → Layout → List ℕ → Out Shown → Type 0
Told (Ok u) p b y z o = Went p b y z o
Told (Err e) p b y z o = Stopped e o

-- the printer goes on with what it reads and with the same lent memory
pub record Same (p q : Printer) : Type 0 where
  pub file : q.file ≡ p.file
  pub links : q.links ≡ p.links
  pub n : q.n ≡ p.n
  pub blocks : q.blocks.ghost_name ≡ p.blocks.ghost_name
  pub page : q.page.ghost_name ≡ p.page.ghost_name
  pub out : q.page.now.out.ghost_name ≡ p.page.now.out.ghost_name

-- a function that answers q prints o of any layout that the tables hold, and changes tree marks only
pub record Printing {A : Type 0} (n : ℕ) (b : List ℕ) (l : List (List ℕ)) (q : Result A MdfError) (p' : Page) (b' : List ℕ)
    (o : Layout → List ℕ → Out Shown) : Type 0 where
  pub told : (y : Layout) (z v : List ℕ) → Holds n b l y z v → Told q p' b' y z (o y v)
  pub same : (i : ℕ) → row_at i b' ≡ row_at i b

abbrev pub Prints : {A : Type 0} → Printer → Result A MdfError → Printer → (Layout → List ℕ → Out Shown) → Type 0
Prints p q p' o = Printing p.n p.blocks.now p.links.now q p'.page.now p'.blocks.now o

-- a node that can be printed: its row is among n, and only a root has no link to it
pub record Fits (n : ℕ) (node : Node) : Type 0 where
  pub row : node.row < n
  pub levels : node.levels ≤ max_levels
  pub root : IfNone node.edge (node.levels ≡ max_levels)

-- what a node prints, and what all roots do
abbrev pub node_of : Printer → Node → Layout → List ℕ → Out Shown
node_of p node y v =
    shown (page p.page.now.out.now p.page.now.at)
    (render_tree_node p.file.now y node.levels (edge_of p.bars (max_levels - node.levels) node.edge) (row_at node.row p.blocks.now) v)

abbrev pub roots_of : Printer → Layout → List ℕ → Out Shown
roots_of p y v = shown (page p.page.now.out.now p.page.now.at) (roots p.file.now y y.blocks v)

-- what the links ls from place i on print, of a block of kind k
unfoldable pub below : List ℕ → Layout → ℕ → List Bool → Kind → List Link → ℕ → List ℕ → Out Printed
below r y levels bars k ls i v = render_children (render_tree_node r y levels) bars k (children_from i ls y.blocks) v

-- the outcome o, of which all links of the block w are left
pub record Into (r : List ℕ) (n : ℕ) (l : List (List ℕ)) (levels : ℕ) (bars : List Bool) (w : Row) (p : Page) (b : List ℕ) (y : Layout) (z : List ℕ)
    (o : Out Shown) : Type 0 where
  pub printed : List ℕ
  pub holds : Holds n b l y z printed
  pub is : o ≡ shown (page p.out.now p.at) (below r y (levels - 1) bars w.kind (links_of (map link_of_words l) w) 0 printed)

abbrev pub ToldOpened : List ℕ → ℕ → List (List ℕ) → ℕ → List Bool → Result (Option BlockInfo) MdfError → Page → List ℕ → Layout → List ℕ → Out Shown
    → Type 0
ToldOpened r n l levels bars (Ok (Some w)) p b y z o = Into r n l levels bars (row_of w) p b y z o
ToldOpened r n l levels bars (Ok None) p b y z o = Went p b y z o
ToldOpened r n l levels bars (Err e) p b y z o = Stopped e o

-- the links to follow are among m
abbrev pub Follows : ℕ → ℕ → Result (Option BlockInfo) MdfError → Type 0
Follows m levels (Ok (Some w)) = (w.first_link + w.link_count ≤ m) × (1 ≤ levels)
Follows m levels (Ok None) = Unit {0}
Follows m levels (Err e) = Unit {0}

-- a node is opened
pub record Opening (r : List ℕ) (n : ℕ) (b : List ℕ) (l : List (List ℕ)) (levels : ℕ) (bars : List Bool) (q : Result (Option BlockInfo) MdfError)
    (p' : Page) (b' : List ℕ) (o : Layout → List ℕ → Out Shown) : Type 0 where
  pub told : (y : Layout) (z v : List ℕ) → Holds n b l y z v → ToldOpened r n l levels bars q p' b' y z (o y v)
  pub same : (i : ℕ) → row_at i b' ≡ row_at i b
  pub inside : Follows (length l) levels q

abbrev pub Opens : Printer → Node → Result (Option BlockInfo) MdfError → Printer → Type 0
Opens p node q p' =
    Opening p.file.now p.n p.blocks.now p.links.now node.levels (take (max_levels - node.levels) p.bars) q p'.page.now p'.blocks.now
    (node_of p node)

-- the whole tree: its text is written from the output's start on, and the rows ws have their tree marks
pub record Whole (a : ℕ) (out out' b' : List ℕ) (ws : List Row) (z : List ℕ) (o : Out Printed) : Type 0 where
  pub text : List ℕ
  pub printed : List ℕ
  pub is : o ≡ ok (text, printed)
  pub wrote : Wrote out 0 text out' a
  pub rows : b' ≡ concat_map (row_words printed) ws ++ z

abbrev pub TreeMet : Result ℕ MdfError → List ℕ → List ℕ → List ℕ → List Row → List ℕ → Out Printed → Type 0
TreeMet (Ok a) out out' b' ws z o = Whole a out out' b' ws z o
TreeMet (Err e) out out' b' ws z o = Stopped e o
