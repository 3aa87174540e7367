-- `put_links` meets its contract. The invariant: the ranges of the links passed are pushed.
use Rattle.std.proofs.Common.{◌*◌, ◌+◌, ◌≤◌, take, map}
use Rattle.mdf4.specs.Bytes.{concat_map}
use Rattle.tables.specs.Gaps.{Pushes}
use Rattle.tables.specs.Rows.{link_of_words}
use Rattle.scratch_rows.specs.Covers.{link_cover}
use Rattle.scratch_rows.proofs.put_links.Given as goal

abbrev pub invariant-loop-target : goal.invariant-loop-target
invariant-loop-target l =
    Pushes l.initial.scratch (concat_map (link_cover l.file) (map link_of_words (take l.target-index l.links))) l.scratch
    × (l.scratch.count ≤ l.initial.scratch.count + 2 * l.target-index)
