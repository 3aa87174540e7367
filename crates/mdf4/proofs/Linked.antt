-- The links of a state of the walk have the marks found at their targets. Document 02, order 1, of them: where one leads to a mark that
-- starts with ## and 24 bytes inside the file, these are read and its extent is kept. The hypothesis, `Block`, is about the recording's
-- bytes alone.
use mathlib.Core.Path.{◌≡◌, refl, ap, ◌∙◌}
use mathlib.Core.Bool.{true}
use mathlib.Core.List.{List, [], ◌∷◌, map}
use Prim.Native.Nat.{ℕ, zero, suc, ◌+◌, ◌-◌, ◌*◌, ◌%◌, ◌≤◌, ◌<◌, min}
use native.Mathlib.Omega.{arith}
use lib.ListN.{length, get_or}
use borrow.Author.Tests.{le-leb, lt-ltb, eq-eqb, ne_eqb}
use Rattle.mdf4.specs.Bytes.{bytes, little, num, Range, within, inside, concat_map}
use Rattle.mdf4.specs.Act.{Row, Link, State}
use Rattle.mdf4.specs.Kinds.{shape, block_len, read_len, make_link, null}
use Rattle.mdf4.specs.Reads.{leads_to_block, link_ranges, link_extent, links_at, row_ranges, read_ranges, kept_ranges}
use Rattle.mdf4.specs.Demand3.{Block}
use Rattle.mdf4.proofs.Bytes.{inside_append, or_left, or_right}
use Rattle.mdf4.proofs.Fields.{num_suc, num_bytes}
use Rattle.mdf4.proofs.Lists.{All, all_append, all_at}
use Rattle.mdf4.proofs.Reading.{row_links, header_read}
use Rattle.mdf4.proofs.Good.{Inv}

-- each link has the mark found at its target
abbrev pub Found : List ℕ → Link → Type 0
Found r l = l ≡ make_link r l.target

targets_found : (r ts : List ℕ) → All (Found r) (map (make_link r) ts)
unfolding make_link
targets_found r [] = tt
targets_found r (t ∷ ts) = (refl, targets_found r ts)

rows_found : (r : List ℕ) (ws : List Row) → All (Found r) (row_links r ws)
unfolding row_links links_at
rows_found r [] = tt
rows_found r (w ∷ ws) =
    let ts = (shape w.kind).targets (bytes r w.off (read_len w.kind r w.off)) in
    all_append (Found r) (map (make_link r) ts) (row_links r ws) (targets_found r ts) (rows_found r ws)

pub links_found : (r : List ℕ) (s : State) → Inv r s → All (Found r) s.links
links_found r s v = rw v.table (rows_found r s.rows)

-- the test of the definition holds of such a target
mark_is : (r : List ℕ) (t : ℕ) → Block r t → num r t 4 % 65536 ≡ 0x2323
mark_is r t b =
    let e : num r t 4 ≡ get_or r t 0 + 256 * num r (suc t) 3 = num_suc r t 3 (omega (arith, b.whole)) in
    let f : num r (suc t) 3 ≡ get_or r (suc t) 0 + 256 * num r (suc (suc t)) 2 = num_suc r (suc t) 2 (omega (arith, b.whole)) in
    let g : get_or r (suc t) 0 ≡ 0x23 = ap (λ (m : ℕ). get_or r m 0) (omega arith) ∙ b.second in
    omega (arith, e, f, g, b.first)

block_test : (r : List ℕ) (t : ℕ) → Block r t → leads_to_block (length r) (make_link r t) ≡ true
unfolding leads_to_block make_link little
block_test r t b =
    let m : 1 + num r t 4 - 1 ≡ num r t 4 = omega arith in
    rw (ne_eqb t 0 b.some, le-leb (t + 4) (length r) (omega (arith, b.whole)), m, eq-eqb (num r t 4 % 65536) 0x2323 (mark_is r t b), le-leb (t + 24) (length r) b.whole)

-- what an element gives, the list holds
element_inside : (f : Link → List Range) (ls : List Link) (j i : ℕ) → j < length ls → inside i (f (get_or ls j null)) ≡ true → inside i (concat_map f ls) ≡ true
unfolding concat_map
element_inside f [] j i l h = absurd (omega arith)
element_inside f (x ∷ ls) zero i l h = rw inside_append (or_left _ _ h)
element_inside f (x ∷ ls) (suc j) i l h = rw inside_append (or_right (inside i (f x)) _ (element_inside f ls j i (omega arith) h))

module _ (r : List ℕ) (s : State) (v : Inv r s) (j : ℕ) (l : j < length s.links) (b : Block r (get_or s.links j null).target) where
  abbrev link : Link
  link = get_or s.links j null

  leads : leads_to_block (length r) link ≡ true
  leads = ap (leads_to_block (length r)) (all_at (Found r) s.links j null (links_found r s v) l) ∙ block_test r link.target b

  pub block_read : (i : ℕ) → link.target ≤ i → i < link.target + 24 → inside i (read_ranges r s) ≡ true
  unfolding read_ranges
  block_read i m u =
      rw inside_append (or_right (inside i (concat_map (row_ranges r) s.rows)) _ (element_inside (link_ranges (length r)) s.links j i l (header_read (length r) link i leads m u)))

  pub block_kept : (i : ℕ) → link.target ≤ i → i < link.target + num r (link.target + 8) 8 → i < length r → inside i (kept_ranges r s) ≡ true
  unfolding kept_ranges link_extent inside within block_len
  block_kept i m u w =
      let e : num (bytes r link.target 24) 8 8 ≡ num r (link.target + 8) 8 = num_bytes r link.target 24 8 8 (omega arith) in
      element_inside (link_extent r) s.links j i l
      (rw (leads, e, le-leb link.target i m, lt-ltb i (min (link.target + num r (link.target + 8) 8) (length r)) (omega arith)))
