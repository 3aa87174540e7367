-- How an entry ends: the exit of every refusal, and of an acceptance whose text fits the output. Assumes nothing.
use mathlib.Core.Path.{◌≡◌, sym, ◌∙◌}
use mathlib.Core.List.{List}
use Prim.Native.Nat.{ℕ, ◌+◌, ◌^◌, ◌≤◌, ◌<◌}
use lib.ListN.{length, replicate}
use borrow.Author.Tests.{le-leb, lt-leb}
use Rattle.std.specs.Prelude.{Ok, Err, OnErr, IsErrAnd}
use Rattle.fmt.specs.Text.{Wrote}
use Rattle.fmt.proofs.Room as Room
use Rattle.mdf4.specs.Act.{Refusal, refusal, Out, ok, err, and_then, check}
use Rattle.mdf4.specs.Layout.{Layout}
use Rattle.mdf4.specs.Answers.{Lent, Counts, Exit, Made, made, counts, filled, exit, fitted}
use Rattle.blocks.specs.Errors.{numbers}
use Rattle.blocks.specs.declared.error.MdfError.{MdfError}
use Rattle.file_layout.specs.Tables.{lent_by, Keeps, Zeroed, Filled}
use Rattle.file_layout.specs.declared.LentTables.{LentTables}
use Rattle.file_layout.specs.declared.Rows.{Rows}
use Rattle.answers.specs.Entries.{Answer, exit_with, left_in, Long, Ends, Settled}

-- tables that two steps keep
pub keeps_then : {t t' t'' : LentTables} → Keeps t t' → Keeps t' t'' → Keeps t t''
keeps_then k l = record {
  visited = l.visited ∙ k.visited;
  blocks = l.blocks ∙ k.blocks;
  links = l.links ∙ k.links;
  gaps = l.gaps ∙ k.gaps;
  visited_long = l.visited_long ∙ k.visited_long;
  blocks_long = l.blocks_long ∙ k.blocks_long;
  links_long = l.links_long ∙ k.links_long;
  gaps_long = l.gaps_long ∙ k.gaps_long;
}

-- tables that an entry keeps are as long as those that it was lent
pub long : {t t' : LentTables} {o : List ℕ} {scratch out : ℕ} → Keeps t t' → length o ≡ out → Long (lent_by t scratch out) t' o
long k e = record { visited = k.visited_long; blocks = k.blocks_long; links = k.links_long; gaps = k.gaps_long; out = e }

-- tables and an output as long as those lent, zeroed: the exit of a refusal
pub refused_exit : (n : Lent) {t t' : LentTables} {o o' : List ℕ} (e : Refusal) → Zeroed t t' → o' ≡ replicate (length o) 0 → Long n t o
    → exit_with (err e) t'.visited.now t'.blocks.now t'.links.now t'.gaps.now (replicate n.scratch 0) o' ≡ exit n (err e)
unfolding exit_with exit
refused_exit n e z k h = rw (z.visited, z.blocks, z.links, z.gaps, k, h.visited, h.blocks, h.links, h.gaps, h.out)

-- the layout of what was made fills the tables, and its text fits the output: the exit of an acceptance
pub accepted_exit : (n : Lent) (m : Made) {x : Rows} {t : LentTables} → Filled n m.layout m.printed x t
    → left_in (Ok (record { rows = x; bytes = length m.text; total = m.total })) t (replicate n.scratch 0) (filled n.out m.text) ≡ exit n (ok m)
unfolding exit_with exit counts
accepted_exit n m s =
    rw (s.visited_count, s.blocks_count, s.links_count, s.gaps_count, s.visited, s.blocks, s.links, s.gaps)

-- refusal 14, of a text t that was written into n.out zeros: `at` bytes were to be written
module _ (n : Lent) (y : Layout) (p t : List ℕ) {out : List ℕ} {at : ℕ} (small : n.out + 1 < 2 ^ 64) (w : Wrote (replicate n.out 0) 0 t out at) where
  pub fit_refused : n.out < at → fitted n.out y p t ≡ err (refusal 14 0 n.out at)
  unfolding fitted and_then check
  fit_refused h =
      let q = Room.refused n.out small w h in
      rw (lt-leb (length t) n.out q.0, q.1)

  pub fit_accepted : {x : Rows} {tables : LentTables} → at ≤ n.out → Filled n y p x tables
      → left_in (Ok (record { rows = x; bytes = at; total = 0 })) tables (replicate n.scratch 0) out ≡ exit n (fitted n.out y p t)
  unfolding fitted and_then check filled
  fit_accepted h f =
      let q = Room.fitted n.out small w h in
      rw (le-leb (length t) n.out q.0, q.1, q.2) (accepted_exit n (made y p t) f)

-- an output that was zeroed
pub from_zeros : {out out' t : List ℕ} {at : ℕ} (k : ℕ) → out ≡ replicate k 0 → Wrote out 0 t out' at → Wrote (replicate k 0) 0 t out' at
from_zeros k e w = rw (← e) w

-- an entry's answer is settled: the tables, and its output with them
module _ (n : Lent) {x : Exit} {t t' : LentTables} where
  pub settled : (a : Answer) {o o' : List ℕ} → Long n t o → Ends n x a t o → Settled a t o t' o' → left_in a t' (replicate n.scratch 0) o' ≡ x
  settled (Ok y) k e s = rw (s.kept.tables, s.kept.output) e.is
  settled (Err y) k e s = refused_exit n (numbers y) s.zeroed s.output_zeroed k ∙ e.is

  -- its counts are zero where it refuses
  pub settled_counts : (a : Answer) {o q q' : List ℕ} → Long n t o → Ends n x a t o → OnErr a (o ≡ replicate n.out 0)
      → Settled a t q t' q' → left_in a t' (replicate n.scratch 0) o ≡ x
  settled_counts (Ok y) k e z s = rw s.kept.tables e.is
  settled_counts (Err y) k e z s = refused_exit n (numbers y) s.zeroed (rw k.out z) k ∙ e.is

-- what is left in the four tables stands behind the references that an entry was lent
pub left_behind : (a : Out Counts) (s o : List ℕ) {v b l g v' b' l' g' : List ℕ} {x : Exit} → exit_with a v' b' l' g' s o ≡ x
    → v ≡ v' → b ≡ b' → l ≡ l' → g ≡ g' → exit_with a v b l g s o ≡ x
left_behind a s o e ev eb el eg = rw (ev, eb, el, eg) e

-- a refusal that `?` hands on
pub ends_refused : {n : Lent} {x : Exit} {t : LentTables} {o : List ℕ} (a : Answer) (e : MdfError) → IsErrAnd a (λ d. d ≡ e)
    → x ≡ exit n (err (numbers e)) → Ends n x a t o
ends_refused (Ok y) e h p = absurd h
ends_refused (Err d) e h p = record { is = rw h (sym p) }
