-- The prefix of a line as the code has it: a bar for each node above but the root, true where it was the last of its siblings.
use Rattle.std.specs.Prelude.{Bool, false, List, Option, Some, None, ℕ, zero, suc, get_or, take}
use Rattle.mdf4.specs.Tree.{Edge, root, edge}
use Rattle.blocks.specs.Kind.{kind_named}
use Rattle.to_tree.specs.declared.line.Edge as link

-- of a node `depth` below its root, to which the link e leads: the last of the bars is its own
unfoldable pub edge_of : List Bool → ℕ → Option link.Edge → Edge
edge_of bars zero e = root
edge_of bars (suc depth) None = root
edge_of bars (suc depth) (Some e) = edge (take depth bars) (get_or bars depth false) (kind_named e.kind) e.place
