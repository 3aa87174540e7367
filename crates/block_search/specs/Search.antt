-- What a search among rows of the block table finds.
use Rattle.std.specs.Prelude.{◌≡◌, List, [], Option, ℕ, ◌<◌, length, map, get_or}
use Rattle.std.specs.Option.{IfSome, IfNone}
use Rattle.mdf4.proofs.Order.{Rising}
use Rattle.tables.specs.Rows.{row_of_words}

-- the row with the offset t; none where the rows ascend and none has it
pub record Found (bs : List (List ℕ)) (t : ℕ) (r : Option ℕ) : Type 0 where
  pub hit : IfSome r (λ i. (i < length bs) × ((row_of_words (get_or bs i [])).off ≡ t))
  pub miss : IfNone r (Rising (map row_of_words bs) → (j : ℕ) → j < length bs → (row_of_words (get_or bs j [])).off ≡ t → ⊥)
