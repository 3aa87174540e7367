-- `put_prefix` meets its contract. The invariant: the bars passed are written.
use Rattle.std.proofs.Common.{take}
use Rattle.fmt.specs.Text.{Writes}
use Rattle.mdf4.specs.Tree.{prefix_text}
use Rattle.to_tree.proofs.line.put_prefix.Given as goal

abbrev pub invariant-loop-last : goal.invariant-loop-last
invariant-loop-last l = Writes l.initial.page (prefix_text (take l.last-index l.bars)) l.page
