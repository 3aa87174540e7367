-- Blocks, small recordings, and what is lent and answered, as worked rows write them.
use mathlib.Core.List.{List, ◌++◌}
use Prim.Native.Nat.{ℕ}
use lib.ListN.{replicate}
use Rattle.fmt.specs.Text.{ascii}
use Rattle.mdf4.specs.Clear.{le_bytes}
use Rattle.mdf4.specs.Answers.{Lent, Counts}

-- words of the visited, block, link, gap and scratch tables, bytes of the output
abbrev pub lent : ℕ → ℕ → ℕ → ℕ → ℕ → ℕ → Lent
lent v b l g s o = record { visited = v; blocks = b; links = l; gaps = g; scratch = s; out = o }

-- rows of the visited, block, link and gap tables, bytes of the output
abbrev pub counts : ℕ → ℕ → ℕ → ℕ → ℕ → Counts
counts v b l g o = record { visited = v; blocks = b; links = l; gaps = g; bytes = o; total = 0 }

-- a block: mark, block_len, links_nr, and what stands behind the header
abbrev pub block : List ℕ → ℕ → ℕ → List ℕ → List ℕ
block m len links body = m ++ replicate 4 0 ++ le_bytes 8 len ++ le_bytes 8 links ++ body

-- document 01's L: an identification, and a header without links
unfoldable pub identification : List ℕ
identification = ascii "MDF     4.10    console1" ++ replicate 4 0 ++ le_bytes 2 410 ++ replicate 34 0

unfoldable pub header : List ℕ → List ℕ
header links = block (ascii "##HD") 104 6 (links ++ replicate 32 0)

unfoldable pub L : List ℕ
L = identification ++ header (replicate 48 0)
