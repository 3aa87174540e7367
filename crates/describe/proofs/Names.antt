-- The names of links, by the kind as the code has it.
use Rattle.std.proofs.Common.{◌≡◌, refl, ℕ, ◌-◌, ◌<◌, ◌≤◌, true, false, ◌⊎◌, inl, inr, [], ◌∷◌, get_or, arith}
use denote.Enum.Bare.{sameb}
use Rattle.std.proofs.lemmas.Bool.Decides.{nat_tests}
use Rattle.fmt.specs.Text.{ascii}
use Rattle.fmt.specs.Format.{format}
use Rattle.mdf4.specs.Act as spec
use Rattle.mdf4.specs.Kinds.{shape, is}
use Rattle.mdf4.specs.Describe.{link_name}
use Rattle.blocks.specs.declared.kind.Kind.{Kind}
use Rattle.blocks.specs.declared.kind.Kind.TheVariants.{ID, HD, DG, CG, CN, SI, TX, MD, DT, SD, DL, UT, UD}
use Rattle.blocks.specs.contracts.kind.Kind.{the_type}
use Rattle.blocks.specs.Kind.{kind_named}

pub no_names : (k : Kind) → (k ≡ ID) ⊎ ((k ≡ TX) ⊎ ((k ≡ MD) ⊎ ((k ≡ DT) ⊎ ((k ≡ SD) ⊎ ((k ≡ UT) ⊎ (k ≡ UD)))))) → [] ≡ (shape (kind_named k)).names
unfolding shape
no_names k h = grind arith

is_list : (k : Kind) → is (kind_named k) spec.DL ≡ sameb the_type k DL
unfolding is shape
is_list k = elim k as (λ v. is (kind_named v) spec.DL ≡ sameb the_type v DL) [
  | ID ↦ refl
  | HD ↦ refl
  | DG ↦ refl
  | CG ↦ refl
  | CN ↦ refl
  | SI ↦ refl
  | TX ↦ refl
  | MD ↦ refl
  | DT ↦ refl
  | SD ↦ refl
  | DL ↦ refl
  | UT ↦ refl
  | UD ↦ refl
]

pub list_link : (k : Kind) (i : ℕ) → true ≡ sameb the_type k DL → 0 < i → link_name (kind_named k) i ≡ format (ascii "data_links[%]") ((i - 1) ∷ [])
unfolding link_name
list_link k i e h = rw (is_list k, ← e) (grind (arith, nat_tests))

pub fixed_link : (k : Kind) (i : ℕ) → (false ≡ sameb the_type k DL) ⊎ (i ≤ 0) → link_name (kind_named k) i ≡ get_or (shape (kind_named k)).names i []
unfolding link_name
fixed_link k i (inl e) = rw (is_list k, ← e)
fixed_link k i (inr z) = rw (is_list k) (grind (arith, nat_tests))
