-- Counts of ranges inside a recording, one after the other, and their total.
use mathlib.Core.Path.{◌≡◌, refl, sym, ap, ap₂, ◌∙◌}
use mathlib.Core.List.{List, [], ◌∷◌, ◌++◌, map}
use Prim.Native.Nat.{ℕ, zero, suc, ◌+◌, ◌-◌, ◌≤◌, ◌<◌}
use native.Mathlib.Omega.{arith}
use lib.ListN.{length, get_or, take, drop, set, length-append, length-map, length-drop}
use lib.Dec.{eqb}
use mathlib.Core.Bool.{Bool, true, false, cond, not}
use Rattle.std.proofs.lemmas.List.Sums.{sum_by-append}
use Rattle.std.specs.List.{count_by}
use Rattle.mdf4.proofs.Gaps.{tally_ext}
use lib.Seq.{take-suc, take_all, length-take-le, get_or-take, get_or-drop, drop-cons, append_snoc, set_at}
use Rattle.mdf4.specs.Bytes.{Range, bit, sum}
use Rattle.mdf4.specs.Blank.{nonzero}
use Rattle.mdf4.specs.Demand3.{Apart}
use Rattle.mdf4.proofs.Lists.{All}
use Rattle.mdf4.proofs.Zeroed.{nonzero_empty, nonzero_step, nonzero_most}
use Rattle.clear_ranges.specs.Sweep.{Inner}
use Rattle.blanking.specs.Counts.{Counted}
use Rattle.blanking.proofs.Zeroing.{ends}

-- the bytes of a list, as the library counts them
nonzero_byte : (b : Bool) → 0 + cond b 1 0 ≡ bit b
unfolding bit
nonzero_byte true = refl
nonzero_byte false = refl

nonzero_count : (xs : List ℕ) (n : ℕ) → n ≤ length xs → count_by (λ x. not (eqb x 0)) (take n xs) ≡ nonzero xs (0, n)
nonzero_count xs zero h = sym (nonzero_empty xs 0)
nonzero_count xs (suc n) h =
    rw (take-suc xs n 0 (omega arith), sum_by-append (λ x. cond (not (eqb x 0)) 1 0) (take n xs) (get_or xs n 0 ∷ []))
    (ap₂ (λ (a b : ℕ). a + b) (nonzero_count xs n (omega arith)) (nonzero_byte (not (eqb (get_or xs n 0) 0)))
    ∙ sym (nonzero_step xs 0 n (omega arith)))

pub nonzero_all : (xs : List ℕ) → count_by (λ x. not (eqb x 0)) xs ≡ nonzero xs (0, length xs)
nonzero_all xs =
    let l : length xs ≤ length xs = omega arith in
    rw take_all at (nonzero_count xs (length xs) l)

-- the bytes of a part
pub nonzero_part : (xs : List ℕ) (a b : ℕ) → nonzero (take (b - a) (drop a xs)) (0, b - a) ≡ nonzero xs (a, b)
unfolding nonzero
nonzero_part xs a b =
    let z : b - a - 0 ≡ b - a = omega arith in
    rw z (tally_ext _ _ (b - a) (λ i l. let y : 0 + i ≡ i = omega arith in rw (y, get_or-take (b - a) (drop a xs) i 0 l, get_or-drop a xs i 0) refl))

pub part_counted : {x : ℕ} (xs : List ℕ) (a b : ℕ) → a ≤ b → b ≤ length xs
    → x ≡ nonzero (take (b - a) (drop a xs)) (0, length (take (b - a) (drop a xs))) → x ≡ nonzero xs (a, b)
part_counted xs a b l h e =
    let k : length (take (b - a) (drop a xs)) ≡ b - a = length-take-le (b - a) (drop a xs) (omega (arith, length-drop a xs)) in
    rw k at e ∙ nonzero_part xs a b

-- the ranges hold no more bytes than the recording
sum_append : (xs ys : List ℕ) → sum (xs ++ ys) ≡ sum xs + sum ys
unfolding sum
sum_append [] ys = omega arith
sum_append (x ∷ xs) ys = omega (arith, sum_append xs ys)

map_append : (f : Range → ℕ) (ps qs : List Range) → map f (ps ++ qs) ≡ map f ps ++ map f qs
map_append f [] qs = refl
map_append f (p ∷ ps) qs = ap (λ (xs : List ℕ). f p ∷ xs) (map_append f ps qs)

sum_most : (r : List ℕ) (n lo : ℕ) (ps : List Range) → Apart lo ps → All (λ g. g.1 ≤ n) ps → sum (map (nonzero r) ps) ≤ n - lo
unfolding sum
sum_most r n lo [] a b = omega arith
sum_most r n lo (p ∷ ps) a b = omega (arith, a.0, a.1, b.0, nonzero_most r p, sum_most r n (suc p.1) ps a.2 b.1)

-- counted so far: the next count goes to the word `at`
pub record Counting (r t₀ t : List ℕ) (total at : ℕ) (ps : List Range) : Type 0 where
  pub so_far : Counted r ps t₀ t total
  pub at_is : at ≡ length ps

pub counting : (r t : List ℕ) → Counting r t t 0 0 []
unfolding sum
counting r t = record { so_far = record { counts = refl; sum_is = refl }; at_is = refl }

module _ {r t₀ t : List ℕ} {total at : ℕ} {ps : List Range} (s : Counting r t₀ t total at ps) (g : Range) where
  -- the total does not pass the recording's length
  pub total_most : {len : ℕ} {ws : List Range} (rest : List Range) → Inner len ws → ps ++ g ∷ rest ≡ ws → total + nonzero r g ≤ len
  unfolding sum
  total_most {len} {ws} rest h e =
      let z : sum (map (nonzero r) ps) + sum (map (nonzero r) (g ∷ rest)) ≡ sum (map (nonzero r) ws)
      = sym (sum_append (map (nonzero r) ps) _) ∙ ap sum (sym (map_append (nonzero r) ps (g ∷ rest)))
      ∙ ap (λ (qs : List Range). sum (map (nonzero r) qs)) e in
      omega (arith, z, s.so_far.sum_is, sum_most r len 0 ws h.apart (ends h))

  pub count_room : {ws : List Range} (rest : List Range) → ps ++ g ∷ rest ≡ ws → length ws ≤ length t₀ → at < length t₀
  count_room {ws} rest e h = omega (arith, h, s.at_is, sym (length-append ps (g ∷ rest)) ∙ ap length e)

  pub count_turn : at < length t₀ → {x : ℕ} → x ≡ nonzero r g → Counting r t₀ (set t at x) (total + x) (at + 1) (ps ++ g ∷ [])
  unfolding sum
  count_turn h {x} e = record {
    so_far = record { counts = rw e counts_are; sum_is = rw (e, map_append, sum_append) (omega (arith, s.so_far.sum_is)) };
    at_is = rw length-append (omega (arith, s.at_is));
  }
    where
      f : Range → ℕ
      f = nonzero r

      q : length ps < length t₀
      q = omega (arith, s.at_is)

      counts_are : set t at (nonzero r g) ≡ map (nonzero r) (ps ++ g ∷ []) ++ drop (length (ps ++ g ∷ [])) t₀
      counts_are =
          let k : suc (length ps) ≡ length ps + 1 = omega arith in
          ap (λ (u : List ℕ). set u at (f g)) (s.so_far.counts ∙ ap (λ (u : List ℕ). map f ps ++ u) (drop-cons t₀ (length ps) 0 q))
          ∙ set_at (map f ps) (get_or t₀ (length ps) 0) (drop (suc (length ps)) t₀) (f g) at (length-map ps f ∙ sym s.at_is)
          ∙ sym (append_snoc (map f ps) (f g) (drop (suc (length ps)) t₀))
          ∙ rw (map_append, length-append, k)
