-- A loop over what a sweep leaves: one law for each.
use Rattle.std.proofs.Common.{◌≡◌, List, [], ◌∷◌, ◌++◌, sym, ◌∙◌, append_assoc, append-nil}
use Rattle.mdf4.specs.Bytes.{Range}

-- P holds of the ranges found so far, and these and the ones left are all
pub record Going (P : List Range → Type 0) (all left : List Range) : Type 0 where
  pub found : List Range
  pub is : found ++ left ≡ all
  pub holds : P found

module _ {P : List Range → Type 0} {all left : List Range} where
  pub going : left ≡ all → P [] → Going P all left
  going e p = record { found = []; is = e; holds = p }

  -- where the next range stands among all
  pub among : (s : Going P all left) {g : Range} {rest : List Range} → left ≡ g ∷ rest → s.found ++ g ∷ rest ≡ all
  among s e = rw e at s.is

  pub turn : {Q : List Range → Type 0} {g : Range} {rest : List Range} → Going P all left → left ≡ g ∷ rest
      → ((ps : List Range) → ps ++ g ∷ rest ≡ all → P ps → Q (ps ++ g ∷ [])) → Going Q all rest
  turn {g = g} {rest} s e f = record {
    found = s.found ++ g ∷ [];
    is = append_assoc s.found _ _ ∙ among s e;
    holds = f s.found (among s e) s.holds;
  }

  pub done : Going P all left → left ≡ [] → P all
  done s e = let z : s.found ≡ all = sym (append-nil s.found) ∙ rw e at s.is in rw (← z) s.holds
