-- What each entry answers, and what it leaves in the lent memory: of the recording and the lengths lent.
use Rattle.std.specs.Prelude.{List, [], ◌∷◌, ◌++◌, map, ℕ, ◌-◌, ◌/◌, min, leb, length, replicate}
use Rattle.mdf4.specs.Bytes.{Range, bit, sum, concat_map}
use Rattle.mdf4.specs.Act.{refusal, Out, ok, err, and_then, check, Row, Link, Limits, elem}
use Rattle.mdf4.specs.Kinds.{shape, u64_max}
use Rattle.mdf4.specs.Reads.{spared_ranges}
use Rattle.mdf4.specs.Layout.{Layout, layout, layout_if, finalized}
use Rattle.mdf4.specs.Clear.{clear_ranges, clr_bytes}
use Rattle.mdf4.specs.Blank.{zeroed, nonzero}
use Rattle.mdf4.specs.Listing.{to_text}
use Rattle.mdf4.specs.Tree.{to_tree}
use Rattle.mdf4.specs.Paths.{path}

-- lengths lent: words of each table, bytes of the output; the output of path is its table of offsets, that of the preview its table of
-- counts, both in words. What an entry does not take has length 0.
pub record Lent : Type 0 where
  pub visited : ℕ
  pub blocks : ℕ
  pub links : ℕ
  pub gaps : ℕ
  pub scratch : ℕ
  pub out : ℕ

-- words of a row of the block table, and of a row of the link, gap or scratch table; the visited table has one
abbrev pub block_row_words : ℕ
block_row_words = 14

abbrev pub pair_words : ℕ
pair_words = 2

-- whole rows
unfoldable pub limits : Lent → Limits
limits n = record { visited = n.visited; blocks = n.blocks / block_row_words; links = n.links / pair_words }

-- an accepted call answers the rows of each table; the bytes of the output, the words of a path or the number of the preview's counts;
-- and the counts' total
pub record Counts : Type 0 where
  pub visited : ℕ
  pub blocks : ℕ
  pub links : ℕ
  pub gaps : ℕ
  pub bytes : ℕ
  pub total : ℕ

-- the answer, and what stands in the lent memory at exit
pub record Exit : Type 0 where
  pub answer : Out Counts
  pub visited : List ℕ
  pub blocks : List ℕ
  pub links : List ℕ
  pub gaps : List ℕ
  pub scratch : List ℕ
  pub out : List ℕ

-- what an entry that accepts has made: the layout, the offsets its tree has printed, its text, path, CLR bytes or counts, the counts'
-- total
pub record Made : Type 0 where
  pub layout : Layout
  pub printed : List ℕ
  pub text : List ℕ
  pub total : ℕ

abbrev pub made : Layout → List ℕ → List ℕ → Made
made y v t = record { layout = y; printed = v; text = t; total = 0 }

-- rows as words; behind a block row's twelfth word, the tree mark, stand the two of the link that led to it
unfoldable pub row_words : List ℕ → Row → List ℕ
row_words v w =
    w.off ∷ w.end ∷ w.size ∷ w.mark ∷ (shape w.kind).number ∷ w.index ∷ w.first_link ∷ w.link_count ∷ w.record_size ∷ w.invalidation_bytes
    ∷ w.record_id_len ∷ bit (elem w.off v) ∷ w.from_block ∷ w.from_link ∷ []

unfoldable pub link_words : Link → List ℕ
link_words l = l.target ∷ l.found ∷ []

unfoldable pub range_words : Range → List ℕ
range_words g = g.0 ∷ g.1 ∷ []

-- a table or output of n words or bytes: what is used, then zeros
unfoldable pub filled : ℕ → List ℕ → List ℕ
filled n xs = xs ++ replicate (n - length xs) 0

unfoldable pub counts : Made → Counts
counts m = record {
  visited = length m.layout.state.visited;
  blocks = length m.layout.blocks;
  links = length m.layout.state.links;
  gaps = length m.layout.gaps;
  bytes = length m.text;
  total = m.total;
}

-- a refusal leaves all lent memory zero; the scratch table ends zero always
unfoldable pub exit : Lent → Out Made → Exit
exit n (ok m) = record {
  answer = ok (counts m);
  visited = filled n.visited m.layout.state.visited;
  blocks = filled n.blocks (concat_map (row_words m.printed) m.layout.blocks);
  links = filled n.links (concat_map link_words m.layout.state.links);
  gaps = filled n.gaps (concat_map range_words m.layout.gaps);
  scratch = replicate n.scratch 0;
  out = filled n.out m.text;
}
exit n (err e) = record {
  answer = err e;
  visited = replicate n.visited 0;
  blocks = replicate n.blocks 0;
  links = replicate n.links 0;
  gaps = replicate n.gaps 0;
  scratch = replicate n.scratch 0;
  out = replicate n.out 0;
}

-- the walk, the rows in order and the gaps: refusals 1 to 13, and 15 of a data list
unfoldable pub laid : Lent → List ℕ → Out Layout
laid n r = layout (limits n) (n.gaps / pair_words) r

-- the same of a finalised recording: 16 too, after the walk and before 13
unfoldable pub laid_finalized : Lent → List ℕ → Out Layout
laid_finalized n r = layout_if (finalized r) (limits n) (n.gaps / pair_words) r

-- refusal 13 of a table of n rows that has to take k
unfoldable pub room : ℕ → ℕ → Out (Unit {0})
room n k = check (leb k n) (refusal 13 0 n k)

-- what clear list, blanker and preview refuse alike: behind the gap table's 13 that of the scratch table, which takes a row for each
-- range that is read or kept
unfoldable pub clearable : Lent → List ℕ → Out Layout
clearable n r = and_then (laid_finalized n r) (λ y. and_then (room (n.scratch / pair_words) (length (spared_ranges r y.state))) (λ u. ok y))

-- refusal 14 where the text does not fit; what it needs is counted up to 2^64 - 1
unfoldable pub fitted : ℕ → Layout → List ℕ → List ℕ → Out Made
fitted n y v t = and_then (check (leb (length t) n) (refusal 14 0 n (min (length t) u64_max))) (λ u. ok (made y v t))

-- the entries: layout, listing, tree, path, clear list, blanker, preview
unfoldable pub layout_made : Lent → List ℕ → Out Made
layout_made n r = and_then (laid n r) (λ y. ok (made y [] []))

unfoldable pub to_text_made : Lent → List ℕ → Out Made
to_text_made n r = and_then (laid n r) (λ y. fitted n.out y [] (to_text r y))

unfoldable pub to_tree_made : Lent → List ℕ → Out Made
to_tree_made n r = and_then (laid n r) (λ y. and_then (to_tree r y) (λ p. fitted n.out y p.1 p.0))

-- the path to the block at a (document 02, order 3), refusal 13 where it does not fit
unfoldable pub path_made : ℕ → Lent → List ℕ → Out Made
path_made a n r = and_then (laid n r) (λ y. and_then (room n.out (length (path y a))) (λ u. ok (made y [] (path y a))))

unfoldable pub clear_list_made : Lent → List ℕ → Out Made
clear_list_made n r = and_then (clearable n r) (λ y. fitted n.out y [] (clr_bytes (length r) (clear_ranges r y)))

-- the blanker's tables (document 02, order 5); what it leaves in the recording is `blank_recording`
unfoldable pub blank_made : Lent → List ℕ → Out Made
blank_made n r = and_then (clearable n r) (λ y. ok (made y [] []))

-- the preview (document 02, order 5): a count for each clear range, refusal 13 where they do not fit, and the total
unfoldable pub counted : Layout → List ℕ → Made
counted y ts = record { layout = y; printed = []; text = ts; total = sum ts }

unfoldable pub preview_made : Lent → List ℕ → Out Made
preview_made n r = and_then (clearable n r) (λ y.
    and_then (room n.out (length (clear_ranges r y))) (λ u. ok (counted y (map (nonzero r) (clear_ranges r y)))))

unfoldable pub layout_exit : Lent → List ℕ → Exit
layout_exit n r = exit n (layout_made n r)

unfoldable pub to_text_exit : Lent → List ℕ → Exit
to_text_exit n r = exit n (to_text_made n r)

unfoldable pub to_tree_exit : Lent → List ℕ → Exit
to_tree_exit n r = exit n (to_tree_made n r)

unfoldable pub path_exit : ℕ → Lent → List ℕ → Exit
path_exit a n r = exit n (path_made a n r)

unfoldable pub clear_list_exit : Lent → List ℕ → Exit
clear_list_exit n r = exit n (clear_list_made n r)

unfoldable pub blank_exit : Lent → List ℕ → Exit
blank_exit n r = exit n (blank_made n r)

unfoldable pub preview_exit : Lent → List ℕ → Exit
preview_exit n r = exit n (preview_made n r)

-- the recording that the blanker leaves: its clear bytes are 0, the others as they were; a refused call has not touched it
unfoldable pub blanked : List ℕ → Out Layout → List ℕ
blanked r (ok y) = zeroed (clear_ranges r y) 0 r
blanked r (err e) = r

unfoldable pub blank_recording : Lent → List ℕ → List ℕ
blank_recording n r = blanked r (clearable n r)
