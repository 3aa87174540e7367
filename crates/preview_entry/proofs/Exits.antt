-- The exits of the preview, from what its parts answer. Assumes nothing.
use mathlib.Core.Path.{◌≡◌, sym, ◌∙◌}
use mathlib.Core.List.{List, ◌++◌, map}
use Prim.Native.Nat.{ℕ, ◌-◌, ◌≤◌, ◌<◌}
use native.Mathlib.Omega.{arith}
use lib.ListN.{length, replicate, length-map}
use borrow.Author.Tests.{le-leb, lt-leb}
use Rattle.std.specs.Prelude.{Ok}
use Rattle.fmt.proofs.Room.{drop_replicate}
use Rattle.mdf4.specs.Bytes.{Range}
use Rattle.mdf4.specs.Act.{Refusal, refusal, ok, err, and_then, check}
use Rattle.mdf4.specs.Layout.{Layout}
use Rattle.mdf4.specs.Clear.{clear_ranges}
use Rattle.mdf4.specs.Blank.{nonzero}
use Rattle.mdf4.specs.Answers.{Lent, filled, exit, room, clearable, counted, preview_made, preview_exit}
use Rattle.file_layout.specs.declared.LentTables.{LentTables}
use Rattle.clear_layout.specs.Clearable.{Stands}
use Rattle.clear_layout.specs.declared.Clearable.{Clearable}
use Rattle.blanking.specs.Counts.{Counted}
use Rattle.answers.specs.Entries.{left_in}
use Rattle.answers.proofs.Exits.{accepted_exit}

module _ (n : Lent) (r : List ℕ) where
  pub preview_refused : (e : Refusal) → clearable n r ≡ err e → preview_exit n r ≡ exit n (err e)
  unfolding preview_exit preview_made and_then
  preview_refused e h = rw h

  module _ (y : Layout) (h : clearable n r ≡ ok y) where
    -- 13 of a table of m counts, where k are needed
    pub counts_refused : {m k : ℕ} → m ≡ n.out → k ≡ length (clear_ranges r y) → m < k → preview_exit n r ≡ exit n (err (refusal 13 0 m k))
    unfolding preview_exit preview_made and_then room check
    counts_refused {m} {k} e f l = rw (h, ← e, ← f, lt-leb k m l)

    counts_made_of : length (clear_ranges r y) ≤ n.out → preview_exit n r ≡ exit n (ok (counted y (map (nonzero r) (clear_ranges r y))))
    unfolding preview_exit preview_made and_then room check
    counts_made_of l = rw (h, le-leb (length (clear_ranges r y)) n.out l)

module _ {n : Lent} {r s : List ℕ} {x : Clearable} {t : LentTables} (z : Stands n r x t s) where
  pub counts_accepted : {j total : ℕ} {o : List ℕ} → j ≡ length (clear_ranges r z.layout) → j ≤ n.out
      → Counted r (clear_ranges r z.layout) (replicate n.out 0) o total
      → left_in (Ok (record { rows = x.rows; bytes = j; total = total })) t (replicate n.scratch 0) o ≡ preview_exit n r
  unfolding filled counted
  counts_accepted {j} {total} {o} e h c =
      let ps = clear_ranges r z.layout in
      let f = nonzero r in
      let q : o ≡ map f ps ++ replicate (n.out - length (map f ps)) 0 = c.counts ∙ rw (drop_replicate (length ps) n.out 0, length-map ps f) in
      rw (e, q, c.sum_is, ← length-map ps f) (accepted_exit n (counted z.layout (map f ps)) z.fills)
      ∙ sym (counts_made_of n r z.layout z.is (omega arith))
