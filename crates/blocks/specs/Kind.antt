-- The code's kinds as the definition's, and their numbers.
use Rattle.std.specs.Prelude.{◌≡◌, ℕ, Result, Ok, Err}
use Rattle.mdf4.specs.Act as spec
use Rattle.mdf4.specs.Kinds.{shape}
use Rattle.blocks.specs.declared.kind.Kind.{Kind}
use Rattle.blocks.specs.declared.kind.Kind.TheVariants.{ID, HD, DG, CG, CN, SI, TX, MD, DT, SD, DL, UT, UD}
use Rattle.blocks.specs.declared.kind.UnknownKind.{UnknownKind}

abbrev pub kind_named : Kind → spec.Kind
kind_named ID = spec.ID
kind_named HD = spec.HD
kind_named DG = spec.DG
kind_named CG = spec.CG
kind_named CN = spec.CN
kind_named SI = spec.SI
kind_named TX = spec.TX
kind_named MD = spec.MD
kind_named DT = spec.DT
kind_named SD = spec.SD
kind_named DL = spec.DL
kind_named UT = spec.UT
kind_named UD = spec.UD

-- document 01's number
abbrev pub number_of : Kind → ℕ
number_of k = (shape (kind_named k)).number

-- the kind with the number n, or that there is none
abbrev pub IsKindOf : ℕ → Result Kind UnknownKind → Type 0
IsKindOf n (Ok k) = number_of k ≡ n
IsKindOf n (Err e) = (e.0 ≡ n) × ((k : Kind) → number_of k ≡ n → ⊥)
