-- `put_block_links` meets its contract: nothing for a row with no links, else a heading and the links.
use Rattle.fmt.proofs.Text.{writes_then}
use Rattle.std.proofs.Common.{◌≡◌, ◌+◌, ◌-◌, arith}
use Rattle.std.proofs.lemmas.Bool.{ne_eqb}
use Rattle.fmt.proofs.Text.{writes_none}
use Rattle.mdf4.specs.Listing.{block_links, links_of}
use Rattle.tables.specs.Rows.{row_of, link_of_words}
use Rattle.std.proofs.lemmas.List.{take-map, drop-map}
use Rattle.to_text.proofs.put_block_links.Goals as goal

pub returns-then-count-eq0 : goal.returns-then-count-eq0
unfolding block_links row_of
returns-then-count-eq0 c = rw c.if-count-eq0.true (writes_none _)

pub overflow_add-first : goal.overflow_add-first
unfolding row_of
overflow_add-first c = omega arith

pub offset_bounds-links-first : goal.offset_bounds-links-first
unfolding row_of
offset_bounds-links-first c = omega arith

pub slice_bounds-put_links-end : goal.slice_bounds-put_links-end
unfolding row_of
slice_bounds-put_links-end c = omega arith

pub returns : goal.returns
unfolding block_links links_of row_of
returns c =
    let block = c.args.block.now in
    let count : block.first_link + block.link_count - block.first_link ≡ block.link_count = omega arith in
    let place = writes_then (writes_then c.put_bytes.ensures c.put_mark.ensures) c.put_format.ensures in
    let head = writes_then (writes_then place c.put_description.ensures) c.put_bytes-2.ensures in
    rw (ne_eqb block.link_count 0 c.if-count-eq0.false, drop-map link_of_words block.first_link c.args.links.now, take-map)
    (writes_then head (rw count at c.put_links.ensures))
