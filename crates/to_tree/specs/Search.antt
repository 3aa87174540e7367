-- The children of a node, as the search by offset finds them: among the rows bs of the block table, by its block's links ls.
use Rattle.std.specs.Prelude.{◌≡◌, List, [], ◌∷◌, Option, Some, None, ℕ, ◌≤◌, ◌<◌, length, map, get_or, drop}
use Rattle.std.specs.Option.{IfSome}
use Rattle.mdf4.specs.Act.{Row, Link}
use Rattle.mdf4.specs.Kinds.{null}
use Rattle.mdf4.specs.Tree.{Child, child_of, children}
use Rattle.mdf4.proofs.Order.{Rising}
use Rattle.tables.specs.Rows.{row_of_words}
use Rattle.to_tree.specs.declared.search.Child as declared

-- the row at place r
abbrev pub row_in : List (List ℕ) → ℕ → Row
row_in bs r = row_of_words (get_or bs r [])

-- the child at place i by the row w
abbrev pub child : ℕ → Row → List Child
child i w = record { place = i; row = w } ∷ []

-- the child at place i by the row that was found
abbrev pub child_by : ℕ → List (List ℕ) → Option ℕ → List Child
child_by i bs (Some r) = child i (row_in bs r)
child_by i bs None = []

-- the row that a link with the target t leads to
pub record Leads (bs : List (List ℕ)) (t : ℕ) (r : Option ℕ) : Type 0 where
  pub row : IfSome r (λ i. i < length bs)
  pub child : Rising (map row_of_words bs) → (i : ℕ) (l : Link) → l.target ≡ t → child_of i l (map row_of_words bs) ≡ child_by i bs r

-- the children by the links from place i on
unfoldable pub children_from : ℕ → List Link → List Row → List Child
children_from i ls ws = children i (drop i ls) ws

-- where the search stopped: at a child, or at the end
abbrev pub stop : ℕ → Option declared.Child → declared.Child
stop end (Some c) = c
stop end None = record { place = end; row = 0 }

-- the search stopped at c: up to its place no link leads to a row
pub record Stops (bs : List (List ℕ)) (ls : List Link) (from : ℕ) (c : declared.Child) : Type 0 where
  pub least : from ≤ c.place
  pub most : c.place ≤ length ls
  pub row : c.place < length ls → c.row < length bs
  pub child_at : Rising (map row_of_words bs) → c.place < length ls → child_of c.place (get_or ls c.place null)
      (map row_of_words bs) ≡ child c.place (row_in bs c.row)
  pub rest : Rising (map row_of_words bs) → children_from from ls (map row_of_words bs) ≡ children_from c.place ls (map row_of_words bs)

-- the next link that leads to a row
pub record Next (bs : List (List ℕ)) (ls : List Link) (from : ℕ) (c : Option declared.Child) : Type 0 where
  pub inside : IfSome c (λ x. x.place < length ls)
  pub stops : Stops bs ls from (stop (length ls) c)
