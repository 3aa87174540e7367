-- What the tree takes from the layout that stands in the tables, and what it leaves. Assumes nothing.
use mathlib.Core.Path.{◌≡◌, ap, ◌∙◌}
use mathlib.Core.List.{List, [], ◌++◌}
use Prim.Native.Nat.{ℕ, ◌-◌}
use lib.ListN.{length, replicate}
use Rattle.mdf4.specs.Bytes.{concat_map}
use Rattle.mdf4.specs.Act.{Out}
use Rattle.mdf4.specs.Answers.{Lent, pair_words, row_words, filled}
use Rattle.tables.specs.Rows.{table}
use Rattle.to_tree.specs.Printing.{Holds}
use Rattle.file_layout.specs.Tables.{Filled, Stands}
use Rattle.file_layout.specs.declared.LentTables.{LentTables}
use Rattle.file_layout.specs.declared.Rows.{Rows}
use Rattle.file_layout.proofs.Laying.{filled_is}
use Rattle.file_layout.proofs.Standing.{shows_links, rising}

module _ {asked : Out (Unit {0})} {n : Lent} {r : List ℕ} {x : Rows} {t : LentTables} (s : Stands asked n r x t) where
  -- the words behind the block rows
  abbrev pub spare : List ℕ
  spare = replicate {A = ℕ} (n.blocks - length (concat_map (row_words []) s.layout.blocks)) 0

  -- before the tree, no row is printed
  pub holds : {ls : List (List ℕ)} → ls ≡ table pair_words (λ row. row) x.links t.links.now → Holds x.blocks t.blocks.now ls s.layout spare []
  unfolding filled
  holds e = record {
    rows = s.fills.blocks;
    count = s.fills.blocks_count;
    links = shows_links s e;
    rising = rising s;
  }

  -- behind it, the offsets p are, and the other tables are as they were
  pub refilled : (p : List ℕ) {t' : LentTables} → t'.visited ≡ t.visited → t'.links ≡ t.links → t'.gaps ≡ t.gaps
      → length t'.blocks.now ≡ n.blocks → t'.blocks.now ≡ concat_map (row_words p) s.layout.blocks ++ spare → Filled n s.layout p x t'
  refilled p {t'} ev el eg h e = record {
    visited = rw ev s.fills.visited;
    blocks = filled_is (n.blocks - length (concat_map (row_words []) s.layout.blocks)) (concat_map (row_words p) s.layout.blocks) t'.blocks.now e
        ∙ ap (λ (j : ℕ). filled j (concat_map (row_words p) s.layout.blocks)) h;
    links = rw el s.fills.links;
    gaps = rw eg s.fills.gaps;
    visited_count = s.fills.visited_count;
    blocks_count = s.fills.blocks_count;
    links_count = s.fills.links_count;
    gaps_count = s.fills.gaps_count;
  }
