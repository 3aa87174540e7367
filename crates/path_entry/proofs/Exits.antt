-- The exits of the path, from what its parts answer. Assumes nothing.
use mathlib.Core.Path.{◌≡◌, ◌∙◌}
use mathlib.Core.List.{List, [], map}
use Prim.Native.Nat.{ℕ, ◌≤◌, ◌<◌}
use native.Mathlib.Omega.{arith}
use lib.ListN.{length, replicate, length-replicate}
use borrow.Author.Tests.{le-leb, lt-leb}
use Rattle.std.specs.Prelude.{Ok}
use Rattle.fmt.proofs.Room.{drop_replicate}
use Rattle.mdf4.specs.Act.{Refusal, refusal, ok, err, and_then, check}
use Rattle.mdf4.specs.Layout.{Layout}
use Rattle.mdf4.specs.Paths.{path}
use Rattle.mdf4.specs.Answers.{Lent, made, filled, exit, laid, room, block_row_words, path_made, path_exit}
use Rattle.mdf4.proofs.Order.{Rising}
use Rattle.tables.specs.Rows.{table, row_of_words}
use Rattle.to_path.specs.Words.{Written}
use Rattle.file_layout.specs.Tables.{Stands}
use Rattle.file_layout.specs.declared.LentTables.{LentTables}
use Rattle.file_layout.specs.declared.Rows.{Rows}
use Rattle.file_layout.proofs.Standing.{rising, shows_rows}
use Rattle.answers.specs.Entries.{left_in}
use Rattle.answers.proofs.Exits.{accepted_exit}

module _ (a : ℕ) (n : Lent) (r : List ℕ) where
  pub path_refused : (e : Refusal) → laid n r ≡ err e → path_exit a n r ≡ exit n (err e)
  unfolding path_exit path_made and_then
  path_refused e h = rw h

  module _ (y : Layout) (h : laid n r ≡ ok y) where
    -- 13 of a table of m words, where k are needed
    pub path_long : {m k : ℕ} → m ≡ n.out → k ≡ length (path y a) → m < k → path_exit a n r ≡ exit n (err (refusal 13 0 m k))
    unfolding path_exit path_made and_then room check
    path_long {m} {k} e f l = rw (h, ← e, ← f, lt-leb k m l)

    path_made_of : length (path y a) ≤ n.out → path_exit a n r ≡ exit n (ok (made y [] (path y a)))
    unfolding path_exit path_made and_then room check
    path_made_of l = rw (h, le-leb (length (path y a)) n.out l)

-- what was written into zeros
pub still_zeros : {n m : ℕ} {p o : List ℕ} → Written p (replicate n 0) o m → n < m → o ≡ replicate n 0
still_zeros {n} w l = w.short (omega (arith, length-replicate {A = ℕ} n 0))

written_filled : {n m : ℕ} {p o : List ℕ} → Written p (replicate n 0) o m → m ≤ n → o ≡ filled n p
unfolding filled
written_filled {n} {m} w l = w.fits (omega (arith, length-replicate {A = ℕ} n 0)) ∙ rw (drop_replicate m n 0, w.words)

module _ {n : Lent} {r : List ℕ} {x : Rows} {t : LentTables} (s : Stands (ok tt) n r x t) where
  -- the rows of blocks, by offset
  pub rows_rise : {bs : List (List ℕ)} → bs ≡ table block_row_words (λ row. row) x.blocks t.blocks.now → Rising (map row_of_words bs)
  rows_rise e = rw (shows_rows s e) at (rising s)

  pub path_accepted : (a : ℕ) {m : ℕ} {o : List ℕ} → Written (path s.layout a) (replicate n.out 0) o m → m ≤ n.out
      → left_in (Ok (record { rows = x; bytes = m; total = 0 })) t (replicate n.scratch 0) o ≡ path_exit a n r
  path_accepted a w l =
      rw (w.words, written_filled w l, path_made_of a n r s.layout s.is (omega (arith, w.words)))
      (accepted_exit n (made s.layout [] (path s.layout a)) s.fills)
