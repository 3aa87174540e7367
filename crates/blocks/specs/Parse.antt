-- What a parser answers: the fields of the block's own bytes, or a refusal of its reading.
use Rattle.std.specs.Prelude.{◌≡◌, List, ℕ}
use Rattle.mdf4.specs.Act.{Out, ok, and_then, Kind}
use Rattle.mdf4.specs.Kinds.{read_block}

unfoldable pub parsed : {A : Type 0} → (List ℕ → A) → Kind → List ℕ → ℕ → Out A
parsed f k r a = and_then (read_block k r a) (λ o. ok (f o))

-- o are the own bytes of a block of the kind k
pub record IsOwn (k : Kind) (o : List ℕ) : Type 0 where
  pub recording : List ℕ
  pub at : ℕ
  pub read : read_block k recording at ≡ ok o
