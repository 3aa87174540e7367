-- `path_len` meets its contract. The invariant: the links passed are counted.
use Rattle.std.proofs.Common.{length, map}
use Rattle.tables.specs.Rows.{row_of_words}
use Rattle.to_path.proofs.Going.{Counting}
use Rattle.to_path.proofs.path_len.Given as goal

abbrev pub invariant-loop-links : goal.invariant-loop-links
invariant-loop-links l = Counting (length l.rows) (map row_of_words l.rows) l.offset l.links l.at
