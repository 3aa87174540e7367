-- The listing: `to_text`.
use Rattle.std.specs.Prelude.{cond, List, [], ◌∷◌, ◌++◌, ℕ, suc, ◌-◌, eqb, length, take, drop}
use Rattle.fmt.specs.Text.{ascii}
use Rattle.fmt.specs.Digits.{pad_right}
use Rattle.fmt.specs.Format.{format}
use Rattle.mdf4.specs.Bytes.{Range, concat_map}
use Rattle.mdf4.specs.Act.{Kind, Row, Link}
use Rattle.mdf4.specs.Describe.{describe, extra_line, mark_text, mark_column, link_name}
use Rattle.mdf4.specs.Layout.{Layout}

unfoldable pub head_lines : ℕ → ℕ → List ℕ
head_lines len blocks =
    format (ascii "MDF block layout (file size: % bytes / 0x*)\n\n") (len ∷ len ∷ [])
    ++ format (ascii "Blocks (% total), sorted by offset:\n") (blocks ∷ [])
    ++ ascii "offset        end                 size  type    description\n"
    ++ ascii "------------  ------------  ----------  ------  ------------------------------------------------------------\n"

unfoldable pub row_lines : List ℕ → Row → List ℕ
row_lines r w =
    format (ascii "0x$  0x$  !  ") (w.off ∷ w.end ∷ w.size ∷ []) ++ mark_column w.mark ++ ascii "  " ++ describe r w ++ ascii "\n" ++ extra_line r w

unfoldable pub gap_line : Range → List ℕ
gap_line g = format (ascii "  0x$ .. 0x$  (% bytes)\n") (g.0 ∷ g.1 ∷ (g.1 - g.0) ∷ [])

unfoldable pub gap_lines : List Range → List ℕ
gap_lines [] = []
gap_lines (g ∷ gs) = ascii "\nUnreferenced byte ranges (gaps):\n" ++ concat_map gap_line (g ∷ gs)

-- a link: null, or its target and the mark found there
unfoldable pub found_text : Link → List ℕ
found_text l = cond (eqb l.found 0) (ascii "?") (mark_text (l.found - 1))

unfoldable pub target_text : Link → List ℕ
target_text l = cond (eqb l.target 0) (ascii "(null)") (format (ascii "0x$ (") (l.target ∷ []) ++ found_text l ++ ascii ")")

unfoldable pub link_line : Kind → ℕ → Link → List ℕ
link_line k i l = ascii "    " ++ pad_right 28 32 (link_name k i) ++ ascii " -> " ++ target_text l ++ ascii "\n"

-- from the link at place i on
unfoldable pub link_lines : Kind → ℕ → List Link → List ℕ
link_lines k i [] = []
link_lines k i (l ∷ ls) = link_line k i l ++ link_lines k (suc i) ls

-- a row's links in the link table
unfoldable pub links_of : List Link → Row → List Link
links_of ls w = take w.link_count (drop w.first_link ls)

unfoldable pub block_links : List ℕ → List Link → Row → List ℕ
block_links r ls w =
    cond (eqb w.link_count 0) []
    (ascii "  " ++ mark_text w.mark ++ format (ascii " @ 0x$ (") (w.off ∷ []) ++ describe r w ++ ascii ")\n" ++ link_lines w.kind 0 (links_of ls w))

unfoldable pub to_text : List ℕ → Layout → List ℕ
to_text r y =
    head_lines (length r) (length y.blocks) ++ concat_map (row_lines r) y.blocks ++ gap_lines y.gaps
    ++ ascii "\nBlock links:\n" ++ concat_map (block_links r y.state.links) y.blocks
