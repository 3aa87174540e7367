-- Texts as lists of bytes, and what writing one into a lent output leaves there. Assumes nothing.
use Rattle.std.specs.Prelude.{ℕ, ◌+◌, ◌-◌, ◌^◌, min, ◌≡◌, List, [], ◌∷◌, set}
use Prim.Native.Char.{code}
use Prim.Native.String.{String}
use Prim.Native.String as S
use Rattle.fmt.specs.declared.Page as lent

-- the bytes of a text of ASCII characters
abbrev pub ascii : String → List ℕ
ascii S.[] = []
ascii (S.◌∷◌ c s) = code c ∷ ascii s

-- an output and the number of bytes that were to be written into it so far, those that did not fit among them
pub data Page : Type 0 where
  page : List ℕ → ℕ → Page

-- one byte more: it is stored if it fits (`set` past the end changes nothing), and it counts; the count stops at 2^64 - 1
unfoldable pub step : Page → ℕ → Page
step (page out at) b = page (set out at b) (min (at + 1) (2 ^ 64 - 1))

unfoldable pub emit : Page → List ℕ → Page
emit p [] = p
emit p (b ∷ bs) = emit (step p b) bs

-- what a function that writes the text t ensures: the output and the count before, the text, and the output and the count after
pub record Wrote (out : List ℕ) (at : ℕ) (t : List ℕ) (out' : List ℕ) (at' : ℕ) : Type 0 where
  pub is : page out' at' ≡ emit (page out at) t

-- the same of the code's `Page`, which goes on lending the same output
pub record Writes (p : lent.Page) (t : List ℕ) (q : lent.Page) : Type 0 where
  pub same_reference : q.out.ghost_name ≡ p.out.ghost_name
  pub wrote : Wrote p.out.now p.at t q.out.now q.at
