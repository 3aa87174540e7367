-- Fields of a block's own bytes are fields of the recording, and read lengths are document 01's.
use mathlib.Core.Path.{◌≡◌, refl, ap}
use mathlib.Core.List.{List, [], ◌∷◌, ◌++◌}
use mathlib.Core.Bool.{cond}
use Prim.Native.Nat.{ℕ, zero, suc, ◌+◌, ◌-◌, ◌*◌, ◌≤◌, ◌<◌, ◌^◌, ◌%◌, min}
use native.Mathlib.Omega.{arith}
use native.Mathlib.Nat.{pow-zero, pow-suc, pow-succ', one-mul, mul_assoc}
use lib.Dec.{eqb}
use lib.ListN.{length, take, drop, get_or, length-take, length-drop}
use lib.Seq.{slice, drop-cons, ext_get_or, get_or-take, get_or-drop}
use Rattle.mdf4.specs.Bytes.{bytes, little, num, words}
use Rattle.mdf4.specs.Act.{Kind, ID, HD, DG, CG, CN, SI, TX, MD, DT, SD, DL, UT, UD}
use Rattle.mdf4.specs.Kinds.{read_len, rest, is, links_nr, block_len, shape, data_at}
use Rattle.mdf4.specs.Reads.{listed_len}

-- a field by its first byte
pub num_zero : (b : List ℕ) (a : ℕ) → num b a 0 ≡ 0
unfolding num bytes little
num_zero b a = refl

pub num_suc : (b : List ℕ) (a w : ℕ) → a < length b → num b a (suc w) ≡ get_or b a 0 + 256 * num b (suc a) w
unfolding num bytes little
num_suc b a w h = rw (drop-cons b a 0 h)

-- a field in two parts
pub num_add : (b : List ℕ) (a v w : ℕ) → a + v ≤ length b → num b a (v + w) ≡ num b a v + 256 ^ v * num b (a + v) w
num_add b a zero w h =
    let e : 0 + w ≡ w = omega arith in
    let z : a + 0 ≡ a = omega arith in
    rw (e, z, num_zero, pow-zero, one-mul) (omega arith)
num_add b a (suc v) w h =
    let ih : num b (suc a) (v + w) ≡ num b (suc a) v + 256 ^ v * num b (suc a + v) w = num_add b (suc a) v w (omega arith) in
    let e : suc a + v ≡ a + suc v = omega arith in
    let s : suc v + w ≡ suc (v + w) = omega arith in
    rw (s, num_suc b a (v + w) (omega arith), num_suc b a v (omega arith), ih, e, pow-succ') (omega (arith, mul_assoc 256 (256 ^ v) (num b (a + suc v) w)))

-- a field of a block's own bytes is a field of the recording
pub bytes_bytes : (r : List ℕ) (a n i w : ℕ) → i + w ≤ n → bytes (bytes r a n) i w ≡ bytes r (a + i) w
unfolding bytes
bytes_bytes r a n i w h = ext_get_or 0 _ _ (simp (length-take, length-drop) (omega arith)) at
  where
    at : (j : ℕ) → j < length (take w (drop i (take n (drop a r)))) → get_or (take w (drop i (take n (drop a r)))) j 0 ≡ get_or (take w (drop (a + i) r)) j 0
    at j l =
        let g : j < min w (length (drop i (take n (drop a r)))) = rw length-take at l in
        let u : j < w = omega arith in
        rw (get_or-take w (drop i (take n (drop a r))) j 0 u, get_or-drop i, get_or-take n (drop a r) (i + j) 0 (omega arith), get_or-drop a, get_or-take w (drop (a + i) r) j 0 u, get_or-drop (a + i))
        (ap (λ (m : ℕ). get_or r m 0) (omega arith))

-- a part of the recording, as a borrowed part of a slice and as `slice` has it
pub part_bytes : (r : List ℕ) (a n : ℕ) → take (a + n - a) (drop a r) ≡ bytes r a n
unfolding bytes
part_bytes r a n = let e : a + n - a ≡ n = omega arith in rw e

pub slice_bytes : (r : List ℕ) (a n : ℕ) → slice a (a + n) r ≡ bytes r a n
unfolding bytes
slice_bytes r a n = ext_get_or 0 _ _ (simp (length-take, length-drop) (omega arith)) at
  where
    at : (j : ℕ) → j < length (drop a (take (a + n) r)) → get_or (drop a (take (a + n) r)) j 0 ≡ get_or (take n (drop a r)) j 0
    at j l =
        let g : j < length (take (a + n) r) - a = rw length-drop at l in
        let u : j < min (a + n) (length r) - a = rw length-take at g in
        rw (get_or-drop a, get_or-take (a + n) r (a + j) 0 (omega arith), get_or-take n (drop a r) j 0 (omega arith), get_or-drop a)

pub num_bytes : (r : List ℕ) (a n i w : ℕ) → i + w ≤ n → num (bytes r a n) i w ≡ num r (a + i) w
unfolding num
num_bytes r a n i w h = rw (bytes_bytes r a n i w h)

-- a list of fields by its last
pub words_snoc : (b : List ℕ) (a n : ℕ) → words b a (suc n) ≡ words b a n ++ num b (a + 8 * n) 8 ∷ []
unfolding words
words_snoc b a zero = ap (λ (m : ℕ). num b m 8 ∷ []) (omega arith)
words_snoc b a (suc n) = rw (words_snoc b (a + 8) n) (ap (λ (m : ℕ). num b a 8 ∷ words b (a + 8) n ++ num b m 8 ∷ []) (omega arith))

-- a field of bytes below 256 is below its width
pub num_below : (b : List ℕ) → ((i : ℕ) → get_or b i 0 < 256) → (a w : ℕ) → a + w ≤ length b → num b a w < 256 ^ w
num_below b f a zero h = rw num_zero (omega arith)
num_below b f a (suc w) h = rw (num_suc b a w (omega arith), pow-suc) (omega (arith, f a, num_below b f (suc a) w (omega arith)))

-- `read_len` is document 01's list of read bytes
ends : (n : ℕ) (f : ℕ → ℕ) {x y : ℕ} → x ≡ y → 24 + 8 * n + 8 + f x ≡ 32 + 8 * n + f y
ends n f e = rw e (omega arith)

pub read_len_is : (r : List ℕ) (k : Kind) (a : ℕ) → read_len k r a ≡ listed_len r k a
unfolding read_len shape rest is data_at links_nr block_len listed_len
read_len_is r ID a = refl
read_len_is r HD a = refl
read_len_is r DG a = refl
read_len_is r CN a = refl
read_len_is r CG a = rw (num_bytes r a 24 16 8 (omega arith)) (omega arith)
read_len_is r SI a = rw (num_bytes r a 24 16 8 (omega arith)) (omega arith)
read_len_is r DL a =
    let n = num r (a + 16) 8 in
    rw (
      num_bytes r a 24 16 8 (omega arith),
      num_bytes r a (24 + 8 * n + 8) 16 8 (omega arith),
      num_bytes r a (24 + 8 * n + 8) (24 + 8 * n) 1 (omega arith),
      num_bytes r a (24 + 8 * n + 8) (24 + 8 * n + 4) 4 (omega arith),
    )
    (ends n (cond (eqb (num r (a + (24 + 8 * n)) 1 % 2) 1) 8) (ap (λ (m : ℕ). 8 * num r m 4) (omega arith)))
read_len_is r TX a = rw (num_bytes r a 24 8 8 (omega arith)) (omega arith)
read_len_is r MD a = rw (num_bytes r a 24 8 8 (omega arith)) (omega arith)
read_len_is r DT a = refl
read_len_is r SD a = refl
read_len_is r UT a = refl
read_len_is r UD a = refl
