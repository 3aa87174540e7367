-- A channel's name in the scratch table, case by case.
use mathlib.Core.Path.{◌≡◌, refl, ◌∙◌}
use mathlib.Core.Bool.{true, false, cond, and-false}
use mathlib.Core.List.{List, [], ◌∷◌}
use Prim.Native.Nat.{ℕ, ◌+◌, ◌≤◌, ◌<◌, max}
use native.Mathlib.Omega.{arith}
use lib.Dec.{leb}
use lib.ListN.{length}
use borrow.Author.Tests.{le-leb, lt-leb, eq-eqb, ne_eqb}
use Rattle.mdf4.specs.Bytes.{little, num, words}
use Rattle.mdf4.specs.Act.{CN, TX}
use Rattle.mdf4.specs.Kinds.{shape, is, read_len, block_len, make_link, leads_to, name_link, name_is_text, name_head, name_len}
use Rattle.mdf4.specs.Reads.{name_ranges, named_ranges, links_at, listed_len}
use Rattle.mdf4.proofs.Fields.{num_bytes, read_len_is}
use Rattle.blocks.specs.Kind.{kind_named}
use Rattle.tables.specs.declared.BlockInfo.{BlockInfo}
use Rattle.tables.specs.Rows.{row_of}
use Rattle.scratch_rows.specs.Covers.{name_cover, cover, row_cover}

module _ (r : List ℕ) (t : ℕ) where
  no_text : name_is_text (length r) (make_link r t) ≡ false → name_cover r t ≡ []
  unfolding name_cover name_ranges
  no_text e = rw e

  pub name_null : t ≡ 0 → name_cover r t ≡ []
  unfolding name_is_text leads_to make_link shape little
  name_null e = no_text (rw e refl)

  pub name_far : length r < t + 24 → name_cover r t ≡ []
  unfolding name_is_text make_link
  name_far h = no_text (rw (lt-leb (t + 24) (length r) h) (and-false (leads_to (shape TX).mark (make_link r t))))

  module _ (some : t ≡ 0 → ⊥) (there : t + 24 ≤ length r) where
    pub name_other : (num r t 4 ≡ 0x58542323 → ⊥) → name_cover r t ≡ []
    unfolding name_is_text leads_to make_link shape little
    name_other n = no_text (rw (ne_eqb t 0 some, le-leb (t + 4) (length r) (omega arith), ne_eqb (1 + num r t 4) 0x58542324 (λ e. n (omega arith))))

    module _ (text : num r t 4 ≡ 0x58542323) where
      is_text : name_is_text (length r) (make_link r t) ≡ true
      unfolding name_is_text leads_to make_link shape little
      is_text =
          let mark : 1 + num r t 4 ≡ 0x58542324 = omega arith in
          rw (ne_eqb t 0 some, le-leb (t + 4) (length r) (omega arith), le-leb (t + 24) (length r) there, eq-eqb (1 + num r t 4) 0x58542324 mark)

      its_range : name_cover r t ≡ (t, t + cond (leb (t + max 24 (num r (t + 8) 8)) (length r)) (max 24 (num r (t + 8) 8)) 24) ∷ []
      unfolding name_cover name_ranges name_head name_len block_len make_link
      its_range = rw (is_text, num_bytes r t 24 8 8 (omega arith))

      pub name_fits : {x : ℕ} → x ≡ max 24 (num r (t + 8) 8) → t + x ≤ length r → name_cover r t ≡ (t, t + x) ∷ []
      name_fits {x} e h = its_range ∙ rw (← e, le-leb (t + x) (length r) h)

      pub name_cut : {x : ℕ} → x ≡ max 24 (num r (t + 8) 8) → length r < t + x → name_cover r t ≡ (t, t + 24) ∷ []
      name_cut {x} e h = its_range ∙ rw (← e, lt-leb (t + x) (length r) h)

-- a block's ranges: the name of a channel is its third link, and no other kind has one
third : (r : List ℕ) (a : ℕ) → name_link (links_at r CN a) ≡ make_link r (num r (a + 40) 8)
unfolding name_link links_at shape words listed_len
third r a =
    let e : read_len CN r a ≡ 160 = read_len_is r CN a in
    rw (e, num_bytes r a 160 40 8 (omega arith))

module _ (r : List ℕ) (b : BlockInfo) {x e : ℕ} (read : x ≡ read_len (kind_named b.kind) r b.offset)
    (behind : e ≡ max b.end_offset (b.offset + x)) where
  pub cover_channel : {t : ℕ} → kind_named b.kind ≡ CN → t ≡ num r (b.offset + 40) 8 → row_cover r (row_of b) ≡ (b.offset, e) ∷ name_cover r t
  unfolding row_cover row_of cover named_ranges name_cover is shape
  cover_channel c f = rw (f, behind, read, c, third r b.offset)

  pub cover_other : is (kind_named b.kind) CN ≡ false → row_cover r (row_of b) ≡ (b.offset, e) ∷ []
  unfolding row_cover row_of cover named_ranges
  cover_other n = rw (behind, read, n)
