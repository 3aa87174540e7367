-- What an entry takes from the answer of its first part, and what its next part takes from the layout that stands in the tables.
-- Assumes nothing.
use Rattle.std.specs.Prelude.{Err}
use mathlib.Core.Path.{◌≡◌, refl, sym, ap, ◌∙◌}
use mathlib.Core.List.{List, [], ◌∷◌, map}
use Prim.Native.Nat.{ℕ, ◌/◌, ◌<◌}
use native.Mathlib.Omega.{arith}
use lib.ListN.{length, get_or, get_or-map, length-map}
use Rattle.mdf4.specs.Act.{Out, ok, err, Row, Link}
use Rattle.mdf4.specs.Layout.{Layout, layout_of, layout, finalized}
use Rattle.mdf4.specs.Answers.{Lent, limits, block_row_words, pair_words, filled, laid, laid_finalized}
use Rattle.mdf4.proofs.Good.{Readable, Placed, Inv}
use Rattle.mdf4.proofs.Laid as law
use Rattle.mdf4.proofs.Lists.{All, all_at}
use Rattle.mdf4.proofs.Order.{Rising}
use Rattle.mdf4.proofs.Texts.{all_sort}
use Rattle.mdf4.proofs.Demand3.{pairs_in}
use Rattle.blocks.specs.Errors.{numbers}
use Rattle.blocks.specs.declared.error.MdfError.{MdfError}
use Rattle.tables.specs.Rows.{table, row_of_words, link_of_words, held_rows}
use Rattle.tables.specs.Gaps.{range_of}
use Rattle.tables.specs.Laid.{Shows, RowOk, Printable}
use Rattle.tables.proofs.Chunks.{held_rows_are, held_links_are, map-table}
use Rattle.tables.proofs.Words.{rows_back, links_back}
use Rattle.file_layout.specs.declared.LentTables.{LentTables}
use Rattle.file_layout.specs.declared.Rows.{Rows}
use Rattle.file_layout.specs.Tables.{Stands, LaidMet}

-- a refusal of `lay`
module _ {n : Lent} {r : List ℕ} {t : LentTables} {e : MdfError} where
  pub laid_refused : LaidMet (ok tt) n r (Err e) t → laid n r ≡ err (numbers e)
  unfolding laid layout
  laid_refused m = m.is

pub finalized_laid : {n : Lent} {r : List ℕ} {x : Rows} {t : LentTables} (s : Stands (finalized r) n r x t) → laid_finalized n r ≡ ok s.layout
unfolding laid_finalized laid layout
finalized_laid s = rw s.granted s.is

-- the layout of an accepted recording: each of its rows can be read again and has its links in the link table
row_ok : (r : List ℕ) (ls : List Link) (ws : List Row) → All (Readable r) ws → Placed r ls ws → All (RowOk r (length ls)) ws
row_ok r ls [] a p = tt
row_ok r ls (w ∷ ws) a p = (record { readable = a.0; links = p.0.0 }, row_ok r ls ws a.1 p.1)

pub rows_ok : (n : Lent) (r : List ℕ) (y : Layout) → laid n r ≡ ok y → All (RowOk r (length y.state.links)) y.blocks
unfolding laid layout_of
rows_ok n r y e =
    let s = (law.walked (limits n) (n.gaps / pair_words) r y e).0 in
    let i = law.inv (limits n) (n.gaps / pair_words) r y e in
    let ok = row_ok r s.links s.rows i.readable i.placed in
    rw (law.walked (limits n) (n.gaps / pair_words) r y e).2 (all_sort (RowOk r (length s.links)) s.rows ok)

-- it was walked, and it is its state's layout
pub inv : (n : Lent) (r : List ℕ) (y : Layout) → laid n r ≡ ok y → Inv r y.state
unfolding laid
inv n r y e = rw (law.state_is (limits n) (n.gaps / pair_words) r y e) (law.inv (limits n) (n.gaps / pair_words) r y e)

pub is_layout : (n : Lent) (r : List ℕ) (y : Layout) → laid n r ≡ ok y → y ≡ layout_of r y.state
unfolding laid
is_layout n r y e =
    (law.walked (limits n) (n.gaps / pair_words) r y e).2 ∙ ap (layout_of r) (sym (law.state_is (limits n) (n.gaps / pair_words) r y e))

module _ {asked : Out (Unit {0})} {n : Lent} {r : List ℕ} {x : Rows} {t : LentTables} (s : Stands asked n r x t) where
  -- by ascending offsets
  pub rising : Rising s.layout.blocks
  unfolding laid
  rising = law.ascending (limits n) (n.gaps / pair_words) r s.layout s.is

  -- the rows in use of each table hold the layout
  module _ {bs : List (List ℕ)} (e : bs ≡ table block_row_words (λ row. row) x.blocks t.blocks.now) where
    pub shows_rows : s.layout.blocks ≡ map row_of_words bs
    unfolding filled
    shows_rows =
        rw (e, held_rows_are x.blocks t.blocks.now, s.fills.blocks_count, s.fills.blocks) (sym (rows_back [] s.layout.blocks _))

  -- the rows of the block table ascend too
  pub rising_rows : Rising (held_rows x.blocks t.blocks.now)
  rising_rows =
      let e : s.layout.blocks ≡ held_rows x.blocks t.blocks.now = shows_rows refl ∙ held_rows_are x.blocks t.blocks.now in
      rw e at rising

  module _ {ls : List (List ℕ)} (e : ls ≡ table pair_words (λ row. row) x.links t.links.now) where
    pub shows_links : s.layout.state.links ≡ map link_of_words ls
    unfolding filled
    shows_links =
        rw (e, held_links_are x.links t.links.now, s.fills.links_count, s.fills.links) (sym (links_back s.layout.state.links _))

  module _ {gs : List (List ℕ)} (e : gs ≡ table pair_words (λ row. row) x.gaps t.gaps.now) where
    shows_gaps : s.layout.gaps ≡ map range_of gs
    unfolding filled
    shows_gaps =
        rw (e, map-table pair_words x.gaps t.gaps.now (omega arith), s.fills.gaps_count, s.fills.gaps) (sym (pairs_in s.layout.gaps _))

  module _ {bs ls : List (List ℕ)} (eb : bs ≡ table block_row_words (λ row. row) x.blocks t.blocks.now)
      (el : ls ≡ table pair_words (λ row. row) x.links t.links.now) where
    pub shows : {gs : List (List ℕ)} → gs ≡ table pair_words (λ row. row) x.gaps t.gaps.now → Shows s.layout bs ls gs
    shows eg = record { rows = shows_rows eb; links = shows_links el; gaps = shows_gaps eg }

    -- and each row is that of a block of the recording
    pub printable : Printable r bs ls
    printable = record { row = at }
      where
        at : (i : ℕ) → i < length bs → RowOk r (length ls) (row_of_words (get_or bs i []))
        at i h =
            let d = row_of_words [] in
            let rows : length s.layout.blocks ≡ length bs = ap length (shows_rows eb) ∙ length-map bs row_of_words in
            let links : length s.layout.state.links ≡ length ls = ap length (shows_links el) ∙ length-map ls link_of_words in
            let a = all_at (RowOk r (length s.layout.state.links)) s.layout.blocks i d (rows_ok n r s.layout s.is) (omega (arith, rows)) in
            let e : get_or s.layout.blocks i d ≡ row_of_words (get_or bs i [])
            = ap (λ (ws : List Row). get_or ws i d) (shows_rows eb) ∙ get_or-map row_of_words bs i [] in
            rw (e, links) at a
