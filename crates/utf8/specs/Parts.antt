-- Parts of a text as the code has them: slices of its bytes. Assumes nothing.
use Rattle.std.specs.Prelude.{◌≡◌, List, ℕ, ◌≤◌, length}
use Rattle.std.proofs.Math.Seq.{slice}
use Rattle.utf8.specs.Utf8.{Chunk, char, junk, chunks}
use Rattle.utf8.specs.declared.Chunk as code
use Rattle.utf8.specs.declared.Chunk.TheVariants as code_part
use Rattle.utf8.specs.declared.Chunks as code_parts

-- r is the part of the text t from `from` up to `to`
pub record IsPart (t r : List ℕ) : Type 0 where
  pub from : ℕ
  pub to : ℕ
  pub order : from ≤ to
  pub high : to ≤ length t
  pub is : r ≡ slice from to t

-- what a part of the code's is
abbrev pub held : code.Chunk → Chunk
held (code_part.Char s) = char s.now
held (code_part.Junk s) = junk s.now

-- the parts that are left
abbrev pub left : code_parts.Chunks → List Chunk
left it = chunks it.rest.now
