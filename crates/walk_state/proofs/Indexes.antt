-- The kinds that count, and those that do not. Assumes nothing.
use Rattle.std.proofs.Common.{◌≡◌, refl, false, ℕ, ◌+◌}
use Rattle.mdf4.specs.Bytes.{bit}
use Rattle.mdf4.specs.Act as spec
use Rattle.mdf4.specs.Kinds.{shape, is}
use Rattle.blocks.specs.Kind.{kind_named}
use Rattle.walk_state.specs.declared.Walk.{Walk}
use Rattle.walk_state.specs.Within.{one_listed}
use Rattle.blocks.specs.declared.kind.Kind.{Kind}
use Rattle.blocks.specs.declared.kind.Kind.TheVariants.{ID, HD, DG, CG, CN, SI, TX, MD, DT, SD, DL, UT, UD}

-- a kind that does not count
pub record Uncounted (k : spec.Kind) : Type 0 where
  pub dg : is k spec.DG ≡ false
  pub cg : is k spec.CG ≡ false
  pub cn : is k spec.CN ≡ false

pub uncounted : (k : Kind) → (k ≡ DG → ⊥) → (k ≡ CG → ⊥) → (k ≡ CN → ⊥) → Uncounted (kind_named k)
unfolding is shape
uncounted DG p q r = absurd (p refl)
uncounted CG p q r = absurd (q refl)
uncounted CN p q r = absurd (r refl)
uncounted ID p q r = record { dg = refl; cg = refl; cn = refl }
uncounted HD p q r = record { dg = refl; cg = refl; cn = refl }
uncounted SI p q r = record { dg = refl; cg = refl; cn = refl }
uncounted TX p q r = record { dg = refl; cg = refl; cn = refl }
uncounted MD p q r = record { dg = refl; cg = refl; cn = refl }
uncounted DT p q r = record { dg = refl; cg = refl; cn = refl }
uncounted SD p q r = record { dg = refl; cg = refl; cn = refl }
uncounted DL p q r = record { dg = refl; cg = refl; cn = refl }
uncounted UT p q r = record { dg = refl; cg = refl; cn = refl }
uncounted UD p q r = record { dg = refl; cg = refl; cn = refl }

-- the counts with one row more
pub listed_is : (k : spec.Kind) (w : Walk) {d c n : ℕ} → d ≡ w.dg + bit (is k spec.DG) → c ≡ w.cg + bit (is k spec.CG) → n ≡ w.cn + bit (is k spec.CN)
    → record {
      visited = w.visited;
      blocks = w.blocks + 1;
      links = w.links;
      dg = d;
      cg = c;
      cn = n;
      from_block = w.from_block;
      from_link = w.from_link;
    } ≡ one_listed k w
listed_is k w p q r = unfold one_listed in rw (p, q, r)
