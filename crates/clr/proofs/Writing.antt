-- Numbers byte by byte, ranges written one after the other, and the CLR bytes as a whole.
use mathlib.Core.Path.{◌≡◌, refl, subst}
use mathlib.Core.List.{List, [], ◌∷◌, ◌++◌, append-nil}
use Prim.Native.Nat.{ℕ}
use native.Mathlib.Nat.{div-div-eq-div-mul}
use lib.ListN.{length, replicate}
use Rattle.std.specs.Int.{to_le_bytes}
use Rattle.std.proofs.Common.{w16, w64}
use Rattle.fmt.specs.declared.Page.{Page}
use Rattle.fmt.specs.Text.{ascii, Writes}
use Rattle.fmt.proofs.Text.{writes_none, writes_then}
use Rattle.mdf4.specs.Bytes.{Range, concat_map}
use Rattle.mdf4.specs.Clear.{le_bytes, range_bytes, clr_bytes}
use Rattle.mdf4.proofs.Lists.{concat_map_append}

-- the library's little-endian bytes are the definition's
le_2 : (x : ℕ) → to_le_bytes w16 x ≡ le_bytes 2 x
unfolding le_bytes
le_2 x = refl

le_8 : (x : ℕ) → to_le_bytes w64 x ≡ le_bytes 8 x
unfolding le_bytes
le_8 x = simp div-div-eq-div-mul

module _ {p q : Page} (x : ℕ) where
  write_2 : Writes p (to_le_bytes w16 x) q → Writes p (le_bytes 2 x) q
  write_2 w = subst (λ (t : List ℕ). Writes p t q) (le_2 x) w

  pub write_8 : Writes p (to_le_bytes w64 x) q → Writes p (le_bytes 8 x) q
  write_8 w = subst (λ (t : List ℕ). Writes p t q) (le_8 x) w

-- written so far
pub write_none : (p : Page) → Writes p (concat_map range_bytes []) p
unfolding concat_map
write_none p = writes_none p

pub write_turn : {p q r s : Page} (g : Range) (ps : List Range) → Writes p (concat_map range_bytes ps) q
    → Writes q (to_le_bytes w64 g.0) r → Writes r (to_le_bytes w64 g.1) s → Writes p (concat_map range_bytes (ps ++ g ∷ [])) s
unfolding concat_map range_bytes
write_turn g ps u v w = rw (concat_map_append, append-nil) (writes_then u (writes_then (write_8 g.0 v) (write_8 g.1 w)))

-- mark, version, three zeros, the file's length, the number of ranges, and the ranges
pub clr_is : (len : ℕ) (gs : List Range) {n : ℕ} {p p1 p2 p3 p4 p5 q : Page} → n ≡ length gs
    → Writes p (ascii "CLR") p1 → Writes p1 (to_le_bytes w16 1) p2 → Writes p2 (replicate 3 0) p3 → Writes p3 (to_le_bytes w64 len) p4
    → Writes p4 (to_le_bytes w64 n) p5 → Writes p5 (concat_map range_bytes gs) q → Writes p (clr_bytes len gs) q
unfolding clr_bytes le_bytes concat_map
clr_is len gs {n} e w1 w2 w3 w4 w5 w6 =
    let all = writes_then w1 (writes_then (write_2 1 w2) (writes_then w3 (writes_then (write_8 len w4) (writes_then (write_8 n w5) w6)))) in
    rw (← e) all
