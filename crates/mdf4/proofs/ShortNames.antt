-- A channel's name with a block_len under 24 (document 02, order 2), in every recording: it is not refused, 24 bytes of it are read,
-- and it is empty.
use mathlib.Core.Path.{◌≡◌, refl}
use mathlib.Core.Bool.{Bool, true, false, cond, ◌||◌}
use mathlib.Core.List.{List, [], ◌∷◌}
use Prim.Native.Nat.{ℕ, ◌+◌, ◌^◌, ◌≤◌, ◌<◌, max}
use native.Mathlib.Omega.{arith}
use lib.Dec.{leb, ltb, eqb}
use lib.ListN.{length}
use borrow.Author.Tests.{leb-true, le-leb, lt-ltb}
use Rattle.utf8.specs.Utf8.{chunks_after, chunks, shown_all, lossy}
use Rattle.utf8.specs.White.{drop_end}
use Rattle.utf8.specs.Nul.{trim_start_nuls, trim_end_nuls, trim_nuls}
use Rattle.utf8.proofs.Slices.{slice_past}
use Rattle.mdf4.specs.Bytes.{bytes}
use Rattle.mdf4.specs.Act.{ok, and_then, check, Link, TX}
use Rattle.mdf4.specs.Kinds.{shape, block_len, leads_to, name_is_text, name_head, name_check, name_len}
use Rattle.mdf4.specs.Reads.{name_ranges}
use Rattle.mdf4.specs.Describe.{name_bytes, name_text}
use Rattle.mdf4.proofs.Bytes.{or_right, and_right}

-- no byte stands behind the header
pub short_text : (n : List ℕ) → block_len n < 24 → name_text n ≡ []
unfolding name_text lossy chunks chunks_after shown_all trim_nuls trim_end_nuls trim_start_nuls drop_end
short_text n h = rw (slice_past n 24 (block_len n) (omega arith)) (either (leb (block_len n) (length n)))
  where
    either : (b : Bool) → ◌≡◌ {A = List ℕ} (cond b [] []) []
    either true = refl
    either false = refl

module _ (r : List ℕ) (l : Link) (text : name_is_text (length r) l ≡ true) where
  pub name_inside : l.target + 24 ≤ length r
  unfolding name_is_text
  name_inside = leb-true (l.target + 24) (length r) (and_right (leads_to (shape TX).mark l) (leb (l.target + 24) (length r)) text)

  pub head_is : name_head r l ≡ bytes r l.target 24
  unfolding name_head
  head_is = rw text

  -- both sums fit
  pub name_accepted : l.target + 24 < 2 ^ 64 → l.target + block_len (name_head r l) < 2 ^ 64 → name_check (length r) l (name_head r l) ≡ ok tt
  unfolding name_check and_then check
  name_accepted s t =
      let z : (eqb l.target 0 || ltb (l.target + 24) (2 ^ 64)) ≡ true = or_right (eqb l.target 0) _ (lt-ltb (l.target + 24) (2 ^ 64) s) in
      rw (z, text, lt-ltb (l.target + block_len (name_head r l)) (2 ^ 64) t)

  module _ (short : block_len (name_head r l) < 24) where
    pub short_accepted : l.target + 24 < 2 ^ 64 → name_check (length r) l (name_head r l) ≡ ok tt
    short_accepted s = name_accepted s (omega (arith, short))

    pub short_len : name_len (length r) l (name_head r l) ≡ 24
    unfolding name_len
    short_len =
        let m : max 24 (block_len (name_head r l)) ≡ 24 = omega (arith, short) in
        rw (m, le-leb (l.target + 24) (length r) name_inside)

    pub short_read : name_ranges (length r) l (name_head r l) ≡ (l.target, l.target + 24) ∷ []
    unfolding name_ranges
    short_read = rw (text, short_len)

    own : name_bytes r l ≡ name_head r l
    unfolding name_bytes
    own = rw (text, short_len, head_is)

    pub short_empty : name_text (name_bytes r l) ≡ []
    short_empty = rw own (short_text (name_head r l) short)
