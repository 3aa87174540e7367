-- The answers of the entries and the words at exit, in the terms of the definition's `Exit`.
use Rattle.std.specs.Prelude.{◌≡◌, Result, Ok, Err, IfOk, OnOk, OnErr, List, ℕ, ◌≤◌, length, replicate}
use Rattle.mdf4.specs.Act.{Out, ok, err}
use Rattle.mdf4.specs.Answers.{Lent, Counts, Exit, exit}
use Rattle.blocks.specs.Errors.{numbers}
use Rattle.blocks.specs.declared.error.MdfError.{MdfError}
use Rattle.file_layout.specs.Tables.{Zeroed}
use Rattle.file_layout.specs.declared.LentTables.{LentTables}
use Rattle.answers.specs.declared.Accepted.{Accepted}

abbrev pub Answer : Type 0
Answer = Result Accepted MdfError

-- what an answer says
abbrev pub answered : Answer → Out Counts
answered (Ok a) = ok (record {
  visited = a.rows.visited;
  blocks = a.rows.blocks;
  links = a.rows.links;
  gaps = a.rows.gaps;
  bytes = a.bytes;
  total = a.total;
})
answered (Err e) = err (numbers e)

-- an answer with the words of the tables and the scratch table and the bytes of the output, or the words of a path or of the preview's
-- counts, at exit
unfoldable pub exit_with : Out Counts → List ℕ → List ℕ → List ℕ → List ℕ → List ℕ → List ℕ → Exit
exit_with a v b l g scratch out = record { answer = a; visited = v; blocks = b; links = l; gaps = g; scratch = scratch; out = out }

abbrev pub left : Answer → List ℕ → List ℕ → List ℕ → List ℕ → List ℕ → List ℕ → Exit
left a = exit_with (answered a)

abbrev pub left_in : Answer → LentTables → List ℕ → List ℕ → Exit
left_in a t = left a t.visited.now t.blocks.now t.links.now t.gaps.now

-- the tables and the output are as long as those lent
pub record Long (n : Lent) (t : LentTables) (o : List ℕ) : Type 0 where
  pub visited : length t.visited.now ≡ n.visited
  pub blocks : length t.blocks.now ≡ n.blocks
  pub links : length t.links.now ≡ n.links
  pub gaps : length t.gaps.now ≡ n.gaps
  pub out : length o ≡ n.out

-- the bytes answered, or the words of a path or the preview's counts, are at most k
pub record Fits (a : Answer) (k : ℕ) : Type 0 where
  pub is : IfOk a (λ x. x.bytes ≤ k)

abbrev pub EndsIn : Lent → Exit → Answer → LentTables → List ℕ → Type 0
EndsIn n x (Ok a) t o = left_in (Ok a) t (replicate n.scratch 0) o ≡ x
EndsIn n x (Err e) t o = exit n (err (numbers e)) ≡ x

-- an entry whose exit is x comes to the answer a: the exit stands in the tables and the output; or it refuses, and they are left free
pub record Ends (n : Lent) (x : Exit) (a : Answer) (t : LentTables) (o : List ℕ) : Type 0 where
  pub is : EndsIn n x a t o

-- the tables and the output were left as they were
pub record Kept (t : LentTables) (o : List ℕ) (t' : LentTables) (o' : List ℕ) : Type 0 where
  pub tables : t' ≡ t
  pub output : o' ≡ o

-- the answer a is settled: what was accepted stays, and a refusal zeroes the tables and the output
pub record Settled (a : Answer) (t : LentTables) (o : List ℕ) (t' : LentTables) (o' : List ℕ) : Type 0 where
  pub kept : OnOk a (Kept t o t' o')
  pub zeroed : OnErr a (Zeroed t t')
  pub output_zeroed : OnErr a (o' ≡ replicate (length o) 0)
