-- What the parsers of texts answer, ##TX and ##MD alike.
use Rattle.std.specs.Prelude.{◌≡◌, List, ℕ, ◌+◌, ◌≤◌, drop}
use Rattle.utf8.specs.Parts.{IsPart}
use Rattle.mdf4.specs.Act.{ok, Kind}
use Rattle.mdf4.specs.Kinds.{block_len, read_block}

-- all that stands behind the header of the own bytes o
abbrev pub behind_header : List ℕ → List ℕ
behind_header o = drop 24 o

-- t is the text of the block at a of the recording r, and len its length; `text` says it of the block's own bytes
pub record TextAt (k : Kind) (text : List ℕ → List ℕ) (r : List ℕ) (a len : ℕ) (t : List ℕ) : Type 0 where
  pub own : List ℕ
  pub read : read_block k r a ≡ ok own
  pub long : len ≡ block_len own
  pub part : IsPart r t
  pub low : a + 24 ≤ part.from
  pub is : t ≡ text own
