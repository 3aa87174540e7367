-- Ranges inside a recording, zeroed one after the other.
use mathlib.Core.Path.{◌≡◌, sym, ap, ◌∙◌}
use mathlib.Core.List.{List, [], ◌∷◌, ◌++◌}
use Prim.Native.Nat.{ℕ, suc, ◌+◌, ◌-◌, ◌≤◌, ◌<◌}
use native.Mathlib.Omega.{arith}
use lib.ListN.{length, replicate, take, drop, length-drop}
use lib.Seq.{length-take-le, drop-drop}
use Rattle.mdf4.specs.Bytes.{Range}
use Rattle.mdf4.specs.Blank.{zeroed}
use Rattle.mdf4.specs.Demand3.{Apart}
use Rattle.mdf4.proofs.Lists.{All}
use Rattle.mdf4.proofs.Zeroed.{zeroed_none, zeroed_cons, zeroed_one, ends_below}
use Rattle.clear_ranges.specs.Sweep.{Inner}
use Rattle.clear_ranges.proofs.Sweeping.{Going, among}

-- a range in the middle of such ranges
apart_at : (lo : ℕ) (ps : List Range) (g : Range) (rest : List Range) → Apart lo (ps ++ g ∷ rest) → g.0 < g.1
apart_at lo [] g rest a = a.1
apart_at lo (p ∷ ps) g rest a = apart_at (suc p.1) ps g rest a.2

all_at : (P : Range → Type 0) (ps : List Range) (g : Range) (rest : List Range) → All P (ps ++ g ∷ rest) → P g
all_at P [] g rest a = a.0
all_at P (p ∷ ps) g rest a = all_at P ps g rest a.1

pub ends : {len : ℕ} {ws : List Range} → Inner len ws → All (λ g. g.1 ≤ len) ws
ends {len} {ws} h = ends_below len 0 ws h.apart h.below

-- the next range of a sweep
pub next_inner : {P : List Range → Type 0} {len : ℕ} {all left : List Range} {g : Range} {rest : List Range} → Inner len all
    → Going P all left → left ≡ g ∷ rest → (g.0 ≤ g.1) × (g.1 ≤ len)
next_inner {len = len} {g = g} {rest} h s e =
    let a = apart_at 0 s.found g rest (rw (among s e) h.apart) in
    let b = all_at (λ q. q.1 ≤ len) s.found g rest (rw (among s e) (ends h)) in
    (omega arith, b)

zeroed_append : (ps qs : List Range) (i : ℕ) (xs : List ℕ) → zeroed (ps ++ qs) i xs ≡ zeroed qs i (zeroed ps i xs)
zeroed_append [] qs i xs = ap (zeroed qs i) (sym (zeroed_none i xs))
zeroed_append (p ∷ ps) qs i xs =
    zeroed_cons p (ps ++ qs) i xs ∙ zeroed_append ps qs i (zeroed (p ∷ []) i xs) ∙ ap (zeroed qs i) (sym (zeroed_cons p ps i xs))

-- one more
pub zero_turn : {s s' : List ℕ} (r : List ℕ) (g : Range) (ps : List Range) → s ≡ zeroed ps 0 r → s' ≡ zeroed (g ∷ []) 0 s
    → s' ≡ zeroed (ps ++ g ∷ []) 0 r
zero_turn r g ps e f = f ∙ ap (zeroed (g ∷ []) 0) e ∙ sym (zeroed_append ps (g ∷ []) 0 r)

-- a part of the recording that became zeros
pub zero_part : (a b : ℕ) (xs : List ℕ) {ys : List ℕ} → a ≤ b → b ≤ length xs → ys ≡ replicate (length (take (b - a) (drop a xs))) 0
    → take a xs ++ (ys ++ drop (b - a) (drop a xs)) ≡ zeroed ((a, b) ∷ []) 0 xs
zero_part a b xs l h e =
    let k : length (take (b - a) (drop a xs)) ≡ b - a = length-take-le (b - a) (drop a xs) (omega (arith, length-drop a xs)) in
    let d : a + (b - a) ≡ b = omega arith in
    rw (e, k, drop-drop, d) (sym (zeroed_one a b xs l h))
