-- The kind of a row, by its number.
use Rattle.std.proofs.Common.{◌≡◌, refl, sym, ℕ, zero, suc, Result, Ok, Err}
use Rattle.std.specs.Result.{result_unwrap_or}
use Rattle.mdf4.specs.Act.{Kind, ID, HD, DG, CG, CN, SI, TX, MD, DT, SD, DL, UT, UD}
use Rattle.mdf4.specs.Kinds.{shape}
use Rattle.blocks.specs.declared.kind.Kind as code
use Rattle.blocks.specs.declared.kind.Kind.TheVariants as named
use Rattle.blocks.specs.declared.kind.UnknownKind.{UnknownKind}
use Rattle.blocks.specs.Kind.{kind_named, number_of, IsKindOf}
use Rattle.tables.specs.Rows.{kind_of}

-- what holds of the kind of each number, and of an unknown data block, holds of the kind of any number
by_number : (P : Kind → Type 0) (n : ℕ) → P UD
    → (n ≡ 1 → P ID) → (n ≡ 2 → P HD) → (n ≡ 3 → P DG) → (n ≡ 4 → P CG) → (n ≡ 5 → P CN) → (n ≡ 6 → P SI)
    → (n ≡ 7 → P TX) → (n ≡ 8 → P MD) → (n ≡ 9 → P DT) → (n ≡ 10 → P SD) → (n ≡ 11 → P DL) → (n ≡ 12 → P UT)
    → P (kind_of n)
unfolding kind_of
by_number P zero d p1 p2 p3 p4 p5 p6 p7 p8 p9 p10 p11 p12 = d
by_number P (suc zero) d p1 p2 p3 p4 p5 p6 p7 p8 p9 p10 p11 p12 = p1 refl
by_number P (suc (suc zero)) d p1 p2 p3 p4 p5 p6 p7 p8 p9 p10 p11 p12 = p2 refl
by_number P (suc (suc (suc zero))) d p1 p2 p3 p4 p5 p6 p7 p8 p9 p10 p11 p12 = p3 refl
by_number P (suc (suc (suc (suc zero)))) d p1 p2 p3 p4 p5 p6 p7 p8 p9 p10 p11 p12 = p4 refl
by_number P (suc (suc (suc (suc (suc zero))))) d p1 p2 p3 p4 p5 p6 p7 p8 p9 p10 p11 p12 = p5 refl
by_number P (suc (suc (suc (suc (suc (suc zero)))))) d p1 p2 p3 p4 p5 p6 p7 p8 p9 p10 p11 p12 = p6 refl
by_number P (suc (suc (suc (suc (suc (suc (suc zero))))))) d p1 p2 p3 p4 p5 p6 p7 p8 p9 p10 p11 p12 = p7 refl
by_number P (suc (suc (suc (suc (suc (suc (suc (suc zero)))))))) d p1 p2 p3 p4 p5 p6 p7 p8 p9 p10 p11 p12 = p8 refl
by_number P (suc (suc (suc (suc (suc (suc (suc (suc (suc zero))))))))) d p1 p2 p3 p4 p5 p6 p7 p8 p9 p10 p11 p12 = p9 refl
by_number P (suc (suc (suc (suc (suc (suc (suc (suc (suc (suc zero)))))))))) d p1 p2 p3 p4 p5 p6 p7 p8 p9 p10 p11 p12 = p10 refl
by_number P (suc (suc (suc (suc (suc (suc (suc (suc (suc (suc (suc zero))))))))))) d p1 p2 p3 p4 p5 p6 p7 p8 p9 p10 p11 p12 = p11 refl
by_number P (suc (suc (suc (suc (suc (suc (suc (suc (suc (suc (suc (suc zero)))))))))))) d p1 p2 p3 p4 p5 p6 p7 p8 p9 p10 p11 p12 = p12 refl
by_number P (suc (suc (suc (suc (suc (suc (suc (suc (suc (suc (suc (suc (suc n))))))))))))) d p1 p2 p3 p4 p5 p6 p7 p8 p9 p10 p11 p12 = d

-- a kind is that of its number
pub kind_again : (k : Kind) → kind_of (shape k).number ≡ k
unfolding kind_of shape
kind_again ID = refl
kind_again HD = refl
kind_again DG = refl
kind_again CG = refl
kind_again CN = refl
kind_again SI = refl
kind_again TX = refl
kind_again MD = refl
kind_again DT = refl
kind_again SD = refl
kind_again DL = refl
kind_again UT = refl
kind_again UD = refl

-- a number that is no kind's stands for unknown data
pub kind_found : (n : ℕ) (r : Result code.Kind UnknownKind) → IsKindOf n r → kind_named (result_unwrap_or r named.UD) ≡ kind_of n
unfolding shape
kind_found n (Ok k) e = rw (← e) (sym (kind_again (kind_named k)))
kind_found n (Err x) e =
    let none : (k : code.Kind) → n ≡ number_of k → ⊥ = λ k h. e.1 k (sym h) in
    by_number (λ k. UD ≡ k) n refl (λ h. absurd (none named.ID h)) (λ h. absurd (none named.HD h)) (λ h. absurd (none named.DG h))
    (λ h. absurd (none named.CG h)) (λ h. absurd (none named.CN h)) (λ h. absurd (none named.SI h)) (λ h. absurd (none named.TX h))
    (λ h. absurd (none named.MD h)) (λ h. absurd (none named.DT h)) (λ h. absurd (none named.SD h)) (λ h. absurd (none named.DL h))
    (λ h. absurd (none named.UT h))
