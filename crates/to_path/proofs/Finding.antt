-- The row at an offset, as a search finds it. Assumes nothing.
use Rattle.std.proofs.Common.{◌≡◌, refl, sym, ap, ◌∙◌, Bool, true, false, ℕ, suc, ◌<◌, List, [], ◌∷◌, length, map, get_or, not, Option, Some, None, arith}
use Rattle.std.proofs.lemmas.Bool.{ne_eqb}
use Rattle.std.proofs.lemmas.List.{get_or-map, length-map}
use Rattle.std.specs.Option.{is_some}
use Rattle.mdf4.specs.Act.{Row}
use Rattle.mdf4.specs.Paths.{from_block_at, is_listed}
use Rattle.mdf4.proofs.Order.{Rising, elem_row, elem_none, rising_apart}
use Rattle.mdf4.proofs.Paths.{from_row}
use Rattle.tables.specs.Rows.{row_of, row_of_words}
use Rattle.tables.specs.declared.BlockInfo.{BlockInfo}
use Rattle.block_search.specs.Search.{Found}

-- where none has the offset
abbrev Missing : List Row → ℕ → Row → Type 0
Missing ws t d = (i : ℕ) → i < length ws → (get_or ws i d).off ≡ t → ⊥

from_miss : (ws : List Row) (t : ℕ) (d : Row) → Missing ws t d → 0 ≡ from_block_at ws t
unfolding from_block_at
from_miss [] t d none = refl
from_miss (w ∷ ws) t d none = rw (ne_eqb w.off t (none 0 (omega arith))) (from_miss ws t d (λ i h. none (suc i) (omega arith)))

-- a row that the code has read
pub loaded : (b : BlockInfo) {w : Row} → row_of b ≡ w → b.from_block ≡ w.from_block
unfolding row_of
loaded b e = ap (λ (w : Row). w.from_block) e

-- what a search for t answers
module _ (bs : List (List ℕ)) (t : ℕ) where
  abbrev rows : List Row
  rows = map row_of_words bs

  none : Row
  none = row_of_words []

  shown : (i : ℕ) → i < length bs → get_or rows i none ≡ row_of_words (get_or bs i [])
  shown i h = get_or-map row_of_words bs i [] none h

  missing : Rising rows → Found bs t None → Missing rows t none
  missing up f i h e =
      let l : i < length bs = omega (arith, length-map bs row_of_words) in
      f.miss up i l (ap (λ (w : Row). w.off) (sym (shown i l)) ∙ e)

  -- none where it answers no place
  pub from_none : Rising rows → (r : Option ℕ) → Found bs t r → ((i : ℕ) → r ≡ Some i → ⊥) → 0 ≡ from_block_at rows t
  from_none up (Some i) f n = absurd (n i refl)
  from_none up None f n = from_miss rows t none (missing up f)

  pub from_found : Rising rows → (r : Option ℕ) → Found bs t r → {i : ℕ} → r ≡ Some i → (row_of_words (get_or bs i [])).from_block ≡ from_block_at rows t
  from_found up (Some j) f {i} e =
      let q : j ≡ i = cc in
      let s = shown j f.hit.0 in
      let l : j < length rows = omega (arith, f.hit.0, length-map bs row_of_words) in
      rw (← q) (ap (λ (w : Row). w.from_block) (sym s) ∙ sym (from_row rows j none (rising_apart rows up) l) ∙ ap (from_block_at rows) (ap (λ (w : Row). w.off) s ∙ f.hit.1))
  from_found up None f e = cc

  pub listed_none : Rising rows → (r : Option ℕ) → Found bs t r → (b : Bool) → is_some r ≡ not b → b ≡ true → is_listed rows t ≡ false
  unfolding is_listed
  listed_none up (Some i) f b e h = cc
  listed_none up None f b e h = elem_none rows t none (missing up f)

  pub listed_found : (r : Option ℕ) → Found bs t r → (b : Bool) → is_some r ≡ not b → b ≡ false → is_listed rows t ≡ true
  unfolding is_listed
  listed_found (Some i) f b e h =
      let l : i < length rows = omega (arith, f.hit.0, length-map bs row_of_words) in
      let o : (get_or rows i none).off ≡ t = ap (λ (w : Row). w.off) (shown i f.hit.0) ∙ f.hit.1 in
      rw o at (elem_row rows i none l)
  listed_found None f b e h = cc
