-- The rows of a flat table as arrays, and what these tell.
use Rattle.std.proofs.Common.{◌≡◌, List, ℕ, zero, suc, ◌≤◌, take, drop, map, refl, arith}
use lib.Seq.{get_or-take}
use Rattle.std.specs.Simd.{first_chunks}
use Rattle.mdf4.specs.Answers.{block_row_words, pair_words}
use Rattle.mdf4.specs.Demand3.{ranges_in}
use Rattle.tables.specs.Gaps.{range_of}
use Rattle.tables.specs.Rows.{table, row_of_words, link_of_words, held_rows, held_links}
use Rattle.tables.proofs.Words.{table_cons}

pub take-first_chunks : (w n m : ℕ) (t : List ℕ) → n ≤ m → take n (first_chunks w m t) ≡ table w (λ row. row) n t
unfolding table
take-first_chunks w zero m t h = refl
take-first_chunks w (suc n) zero t h = absurd (omega arith)
take-first_chunks w (suc n) (suc m) t h = rw (table_cons w (λ row. row) n t, take-first_chunks w n m (drop w t) (omega arith))

-- read by f
pub table_of : {A : Type 0} (f : List ℕ → A) (w n : ℕ) (t : List ℕ) → map f (table w (λ row. row) n t) ≡ table w f n t
unfolding table
table_of f w zero t = refl
table_of f w (suc n) t = rw (table_cons w (λ row. row) n t, table_cons w f n t, table_of f w n (drop w t))

pub held_rows_are : (n : ℕ) (b : List ℕ) → map row_of_words (table block_row_words (λ row. row) n b) ≡ held_rows n b
unfolding held_rows
held_rows_are n b = table_of row_of_words block_row_words n b

pub held_links_are : (m : ℕ) (l : List ℕ) → map link_of_words (table pair_words (λ row. row) m l) ≡ held_links m l
unfolding held_links
held_links_are m l = table_of link_of_words pair_words m l

pub map-table : (w n : ℕ) (t : List ℕ) → 2 ≤ w → map range_of (table w (λ row. row) n t) ≡ ranges_in w n t
unfolding table ranges_in
map-table w zero t h = refl
map-table w (suc n) t h =
    rw (table_cons w (λ row. row) n t, map-table w n (drop w t) h, get_or-take w t 0 0 (omega arith), get_or-take w t 1 0 (omega arith))
