-- `fill_path` meets its contract. The invariant: the words passed are stored, the last ones.
use Rattle.std.proofs.Common.{length, map}
use Rattle.tables.specs.Rows.{row_of_words}
use Rattle.to_path.proofs.Going.{Storing}
use Rattle.to_path.proofs.fill_path.Given as goal

abbrev pub invariant-loop-i : goal.invariant-loop-i
invariant-loop-i l = Storing (map row_of_words l.rows) l.offset (length l.initial.path) l.path l.i l.at
