-- The layout that stands in the lent tables, and the refusals on the way to it.
use Rattle.std.specs.Prelude.{◌≡◌, List, [], ℕ, ◌*◌, ◌/◌, ◌≤◌, length, replicate, Result, Ok, Err}
use Rattle.mdf4.specs.Bytes.{concat_map}
use Rattle.mdf4.specs.Act.{Out, ok, err}
use Rattle.mdf4.specs.Layout.{Layout, walk_state, layout_if}
use Rattle.mdf4.specs.Answers.{Lent, limits, block_row_words, pair_words, row_words, link_words, range_words, filled, laid}
use Rattle.blocks.specs.Errors.{numbers}
use Rattle.blocks.specs.declared.error.MdfError.{MdfError}
use Rattle.walk_state.specs.Within.{held, Within}
use Rattle.walk_state.specs.declared.Walk.{Walk}
use Rattle.file_layout.specs.declared.LentTables.{LentTables}
use Rattle.file_layout.specs.declared.Rows.{Rows}

-- the lengths lent: of the four tables, of the scratch table and of the output
abbrev pub lent : List ℕ → List ℕ → List ℕ → List ℕ → ℕ → ℕ → Lent
lent v b l g scratch out = record { visited = length v; blocks = length b; links = length l; gaps = length g; scratch = scratch; out = out }

abbrev pub lent_by : LentTables → ℕ → ℕ → Lent
lent_by t scratch out = lent t.visited.now t.blocks.now t.links.now t.gaps.now scratch out

-- the four references are still those of the entry, and their tables as long
pub record Keeps (t t' : LentTables) : Type 0 where
  pub visited : t'.visited.ghost_name ≡ t.visited.ghost_name
  pub blocks : t'.blocks.ghost_name ≡ t.blocks.ghost_name
  pub links : t'.links.ghost_name ≡ t.links.ghost_name
  pub gaps : t'.gaps.ghost_name ≡ t.gaps.ghost_name
  pub visited_long : length t'.visited.now ≡ length t.visited.now
  pub blocks_long : length t'.blocks.now ≡ length t.blocks.now
  pub links_long : length t'.links.now ≡ length t.links.now
  pub gaps_long : length t'.gaps.now ≡ length t.gaps.now

-- the tables were zeroed
pub record Zeroed (t t' : LentTables) : Type 0 where
  pub visited : t'.visited.now ≡ replicate (length t.visited.now) 0
  pub blocks : t'.blocks.now ≡ replicate (length t.blocks.now) 0
  pub links : t'.links.now ≡ replicate (length t.links.now) 0
  pub gaps : t'.gaps.now ≡ replicate (length t.gaps.now) 0

-- the tables t' have the blocks and gaps of u, and visited offsets and links as t
pub record Joins (t u t' : LentTables) : Type 0 where
  pub visited : t'.visited.now ≡ t.visited.now
  pub blocks : t'.blocks.now ≡ u.blocks.now
  pub links : t'.links.now ≡ t.links.now
  pub gaps : t'.gaps.now ≡ u.gaps.now

-- the layout y fills the tables t, of which the rows x are in use; p: the offsets that its tree has printed
pub record Filled (n : Lent) (y : Layout) (p : List ℕ) (x : Rows) (t : LentTables) : Type 0 where
  pub visited : t.visited.now ≡ filled n.visited y.state.visited
  pub blocks : t.blocks.now ≡ filled n.blocks (concat_map (row_words p) y.blocks)
  pub links : t.links.now ≡ filled n.links (concat_map link_words y.state.links)
  pub gaps : t.gaps.now ≡ filled n.gaps (concat_map range_words y.gaps)
  pub visited_count : x.visited ≡ length y.state.visited
  pub blocks_count : x.blocks ≡ length y.blocks
  pub links_count : x.links ≡ length y.state.links
  pub gaps_count : x.gaps ≡ length y.gaps

-- the walk of the recording r went through to w, whose state the tables t hold; the gap table is still zero
pub record Walks (n : Lent) (r : List ℕ) (w : Walk) (t : LentTables) : Type 0 where
  pub is : walk_state (limits n) r ≡ ok (held w t.visited.now t.blocks.now t.links.now)
  pub within : Within w t.visited.now t.blocks.now t.links.now
  pub visited_long : length t.visited.now ≡ n.visited
  pub blocks_long : length t.blocks.now ≡ n.blocks
  pub links_long : length t.links.now ≡ n.links
  pub gaps_zero : t.gaps.now ≡ replicate n.gaps 0

abbrev pub WalkedTo : Lent → List ℕ → Result Walk MdfError → LentTables → Type 0
WalkedTo n r (Ok w) t = Walks n r w t
WalkedTo n r (Err e) t = walk_state (limits n) r ≡ err (numbers e)

-- the walk answers x: its state stands in the tables; or the definition's refusal, and the tables are left free
pub record WalkMet (n : Lent) (r : List ℕ) (x : Result Walk MdfError) (t : LentTables) : Type 0 where
  pub is : WalkedTo n r x t

-- the recording r has a layout, it stands in the tables, and what the entry asked besides was granted
pub record Stands (asked : Out (Unit {0})) (n : Lent) (r : List ℕ) (x : Rows) (t : LentTables) : Type 0 where
  pub layout : Layout
  pub is : laid n r ≡ ok layout
  pub granted : asked ≡ ok tt
  pub fills : Filled n layout [] x t
  pub visited_fit : x.visited ≤ length t.visited.now
  pub blocks_fit : x.blocks * block_row_words ≤ length t.blocks.now
  pub links_fit : x.links * pair_words ≤ length t.links.now
  pub gaps_fit : x.gaps * pair_words ≤ length t.gaps.now

abbrev pub Lays : Out (Unit {0}) → Lent → List ℕ → Result Rows MdfError → LentTables → Type 0
Lays asked n r (Ok x) t = Stands asked n r x t
Lays asked n r (Err e) t = layout_if asked (limits n) (n.gaps / pair_words) r ≡ err (numbers e)

-- the first part of an entry, which asks `asked` between the walk and the gaps, answers x: the layout stands in the tables; or the
-- definition's refusal, and the tables are left free
pub record LaidMet (asked : Out (Unit {0})) (n : Lent) (r : List ℕ) (x : Result Rows MdfError) (t : LentTables) : Type 0 where
  pub is : Lays asked n r x t
