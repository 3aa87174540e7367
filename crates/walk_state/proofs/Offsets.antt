-- Whether an offset is among those of a list. Assumes nothing.
use Rattle.std.proofs.Common.{◌≡◌, refl, sym, ℕ, Bool, true, false, List, [], ◌∷◌, eqb}
use Rattle.std.proofs.lemmas.Bool.{eqb-true, eqb-false, eq-eqb, ne_eqb}
use Rattle.std.specs.List.{list_any}
use Rattle.mdf4.specs.Act.{elem}

eqb_back : (x y : ℕ) → eqb y x ≡ eqb x y
eqb_back x y = go (eqb x y) refl
  where
    go : (b : Bool) → eqb x y ≡ b → eqb y x ≡ b
    go true e = eq-eqb y x (sym (eqb-true x y e))
    go false e = ne_eqb y x (λ p. eqb-false x y e (sym p))

pub any-elem : (x : ℕ) (l : List ℕ) → list_any (λ y. eqb y x) l ≡ elem x l
unfolding elem
any-elem x [] = refl
any-elem x (y ∷ ys) = rw (eqb_back x y, any-elem x ys)
