-- Lines written one after the other: turns of the loops over rows, gaps and links, and the whole listing by its tables.
use Rattle.std.proofs.Common.{◌≡◌, refl, sym, ℕ, suc, ◌+◌, ◌<◌, List, [], ◌∷◌, ◌++◌, length, get_or, take, map, append_assoc, append-nil, arith}
use Rattle.std.proofs.Math.Seq.{length-take-le}
use Rattle.std.proofs.lemmas.List.{map_more, length-map}
use Rattle.fmt.specs.Text.{ascii, Wrote, Writes}
use Rattle.fmt.specs.declared.Page.{Page}
use Rattle.fmt.proofs.Text.{writes_none, writes_then}
use Rattle.mdf4.specs.Bytes.{concat_map}
use Rattle.mdf4.specs.Act.{Kind, Link}
use Rattle.mdf4.specs.Layout.{Layout}
use Rattle.mdf4.specs.Listing.{head_lines, row_lines, gap_line, gap_lines, link_line, link_lines, block_links, to_text}
use Rattle.mdf4.proofs.Lists.{concat_map_snoc}
use Rattle.tables.specs.Gaps.{range_of}
use Rattle.tables.specs.Laid.{Shows}
use Rattle.tables.specs.Rows.{row_of_words, link_of_words}

-- what is written of element i, read by g, behind what is written of those before it
pub turn : {A : Type 0} (f : A → List ℕ) (g : List ℕ → A) (xs : List (List ℕ)) (i : ℕ) (d : List ℕ) {p q s : Page} → i < length xs
    → Writes p (concat_map f (map g (take i xs))) q → Writes q (f (g (get_or xs i d))) s → Writes p (concat_map f (map g (take (i + 1) xs))) s
turn f g xs i d h w v = rw (map_more g xs i d h, concat_map_snoc f (map g (take i xs)) (g (get_or xs i d))) (writes_then w v)

pub start : {A : Type 0} (f : A → List ℕ) (p : Page) → Writes p (concat_map f []) p
unfolding concat_map
start f p = writes_none p

-- the heading of the gaps stands above one gap or more
pub gaps_none : (gs : List (List ℕ)) → length gs ≡ 0 → [] ≡ gap_lines (map range_of gs)
unfolding gap_lines
gaps_none [] h = refl
gaps_none (g ∷ gs) h = absurd (omega arith)

pub headed : (gs : List (List ℕ)) → (length gs ≡ 0 → ⊥)
    → ascii "\nUnreferenced byte ranges (gaps):\n" ++ concat_map gap_line (map range_of gs) ≡ gap_lines (map range_of gs)
unfolding gap_lines
headed [] h = absurd (h refl)
headed (g ∷ gs) h = refl

-- the link at place i behind the i links before it
link_snoc : (k : Kind) (i : ℕ) (ls : List Link) (l : Link) → link_lines k i (ls ++ l ∷ []) ≡ link_lines k i ls ++ link_line k (i + length ls) l
unfolding link_lines
link_snoc k i [] l = let e : i + 0 ≡ i = omega arith in rw e (append-nil (link_line k i l))
link_snoc k i (x ∷ ls) l =
    let e : suc i + length ls ≡ i + suc (length ls) = omega arith in
    rw (link_snoc k (suc i) ls l, e) (sym (append_assoc (link_line k i x) (link_lines k (suc i) ls) (link_line k (i + suc (length ls)) l)))

pub link_turn : (k : Kind) (ls : List (List ℕ)) (i : ℕ) (d : List ℕ) {p q s : Page} → i < length ls
    → Writes p (link_lines k 0 (map link_of_words (take i ls))) q → Writes q (link_line k i (link_of_words (get_or ls i d))) s
    → Writes p (link_lines k 0 (map link_of_words (take (i + 1) ls))) s
link_turn k ls i d h w v =
    let n : 0 + length (map link_of_words (take i ls)) ≡ i = omega (arith, length-map (take i ls) link_of_words, length-take-le i ls (omega arith)) in
    rw (map_more link_of_words ls i d h, link_snoc, n) (writes_then w v)

pub links_start : (k : Kind) (p : Page) → Writes p (link_lines k 0 []) p
unfolding link_lines
links_start k p = writes_none p

-- the whole listing, by the rows that hold the layout
pub text_shown : (r : List ℕ) (y : Layout) {b l g : List (List ℕ)} → Shows y b l g → to_text r y
    ≡ head_lines (length r) (length b) ++ concat_map (row_lines r) (map row_of_words b) ++ gap_lines (map range_of g) ++ ascii "\nBlock links:\n"
    ++ concat_map (block_links r (map link_of_words l)) (map row_of_words b)
unfolding to_text
text_shown r y {b} h = rw (h.rows, h.links, h.gaps, length-map b row_of_words)

-- what was written by the page of an output
pub shown : {p q : Page} {t out out' : List ℕ} → p.out.now ≡ out → p.at ≡ 0 → Writes p t q → out' ≡ q.out.now → Wrote out 0 t out' q.at
shown o a w e = rw (← o, ← a, e) w.wrote
