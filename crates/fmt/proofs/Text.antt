-- Writing one text after the other is writing both: the laws by which callers put calls together. Assumes nothing.
use Prim.Native.Nat.{ℕ, ◌+◌, ◌^◌, ◌<◌}
use native.Mathlib.Omega.{arith}
use native.Mathlib.Numerals.{add-one}
use mathlib.Core.Path.{◌≡◌, refl, sym, ap, ap₂, ◌∙◌}
use mathlib.Core.List.{List, [], ◌∷◌, ◌++◌}
use lib.ListN.{length, get_or, set, take, replicate, replicate-append-replicate, length-set}
use lib.Seq.{take-suc}
use Rattle.fmt.specs.Text.{Page, page, step, emit, Wrote, Writes}
use Rattle.fmt.specs.declared.Page as lent

pub emit_append : (p : Page) (a b : List ℕ) → emit p (a ++ b) ≡ emit (emit p a) b
unfolding emit
emit_append p [] b = refl
emit_append p (x ∷ a) b = emit_append (step p x) a b

-- nothing is written; one text after the other
pub none : (out : List ℕ) (at : ℕ) → Wrote out at [] out at
unfolding emit
none out at = record { is = refl }

pub then : {out : List ℕ} {at : ℕ} {s : List ℕ} {out' : List ℕ} {at' : ℕ} {t : List ℕ} {out'' : List ℕ} {at'' : ℕ}
    → Wrote out at s out' at' → Wrote out' at' t out'' at'' → Wrote out at (s ++ t) out'' at''
then {out} {at} {s} {t = t} w v = record { is = rw (emit_append (page out at) s t) (cc) }

-- the same of the code's `Page`
pub writes_none : (p : lent.Page) → Writes p [] p
writes_none p = record { same_reference = refl; wrote = none p.out.now p.at }

pub writes_then : {p : lent.Page} {s : List ℕ} {q : lent.Page} {t : List ℕ} {r : lent.Page} → Writes p s q → Writes q t r → Writes p (s ++ t) r
writes_then w v = record { same_reference = v.same_reference ∙ w.same_reference; wrote = then w.wrote v.wrote }

-- writing keeps the output's length
abbrev pub output : Page → List ℕ
output (page out at) = out

length_step : (p : Page) (b : ℕ) → length (output (step p b)) ≡ length (output p)
unfolding step
length_step (page out at) b = length-set out at b

length_emit : (p : Page) (t : List ℕ) → length (output (emit p t)) ≡ length (output p)
unfolding emit
length_emit p [] = refl
length_emit p (b ∷ t) = length_emit (step p b) t ∙ length_step p b

pub same_length : {out : List ℕ} {at : ℕ} {t : List ℕ} {out' : List ℕ} {at' : ℕ} → Wrote out at t out' at' → length out' ≡ length out
same_length {out} {at} {t} w = ap (λ (p : Page). length (output p)) w.is ∙ length_emit (page out at) t

-- a byte is stored at a place that the output has
pub stored : (out : List ℕ) (at b : ℕ) → at + 1 < 2 ^ 64 → Wrote out at (b ∷ []) (set out at b) (at + 1)
unfolding emit step
stored out at b h = record { is = ap₂ page refl (omega arith) }

-- one turn of a loop that writes the bytes of s, and of one that writes the byte b again and again
module _ {out out' out'' : List ℕ} {at at' at'' : ℕ} where
  pub then_take : (s : List ℕ) (i : ℕ) → i < length s → Wrote out at (take i s) out' at' → Wrote out' at' (get_or s i 0 ∷ []) out'' at''
      → Wrote out at (take (i + 1) s) out'' at''
  then_take s i h w v = rw (add-one, take-suc s i 0) (then w v)

  pub then_same : (b i : ℕ) → Wrote out at (replicate i b) out' at' → Wrote out' at' (b ∷ []) out'' at'' → Wrote out at (replicate (i + 1) b) out'' at''
  then_same b i w v = rw (← replicate-append-replicate i 1 b) (then w v)

-- a writer of the text t on its way from the page p: at q, the text u is left
pub record Left (p q : Page) (t u : List ℕ) : Type 0 where
  pub rest : emit q u ≡ emit p t

pub left_start : (p : Page) (t : List ℕ) → Left p p t t
left_start p t = record { rest = refl }

pub left_more : {p : Page} {out : List ℕ} {at : ℕ} {t : List ℕ} (s u : List ℕ) {out' : List ℕ} {at' : ℕ} → Left p (page out at) t (s ++ u)
    → Wrote out at s out' at' → Left p (page out' at') t u
left_more {out = out} {at} s u w v = record { rest = rw v.is (sym (emit_append (page out at) s u) ∙ w.rest) }

pub left_done : {out : List ℕ} {at : ℕ} {t out' : List ℕ} {at' : ℕ} → Left (page out at) (page out' at') t [] → Wrote out at t out' at'
unfolding emit
left_done w = record { is = w.rest }

-- the same of the code's `Page`
pub record Rest (p q : lent.Page) (t u : List ℕ) : Type 0 where
  pub same_reference : q.out.ghost_name ≡ p.out.ghost_name
  pub left : Left (page p.out.now p.at) (page q.out.now q.at) t u

pub rest_start : (p : lent.Page) (t : List ℕ) → Rest p p t t
rest_start p t = record { same_reference = refl; left = left_start _ t }

pub rest_more : {p q : lent.Page} {t : List ℕ} (s u : List ℕ) {r : lent.Page} → Rest p q t (s ++ u) → Writes q s r → Rest p r t u
rest_more s u w v = record { same_reference = v.same_reference ∙ w.same_reference; left = left_more s u w.left v.wrote }

pub rest_done : {p q : lent.Page} {t : List ℕ} → Rest p q t [] → Writes p t q
rest_done w = record { same_reference = w.same_reference; wrote = left_done w.left }
