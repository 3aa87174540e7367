-- `walk_data_list` and `walk_data_region` end: the depth falls at each list entered. At turn i the links before i are walked.
use Rattle.std.proofs.Common.{◌+◌, ◌*◌}
use Rattle.walk_state.specs.Within.{layout_of}
use Rattle.walk_blocks.proofs.DataRegions.{Turning}
use Rattle.walk_blocks.proofs.regions.+data_regions.Given as goal

abbrev pub decreases-walk_data_list : goal.decreases-walk_data_list
decreases-walk_data_list l = 2 * l.depth

abbrev pub decreases-walk_data_region : goal.decreases-walk_data_region
decreases-walk_data_region l = 2 * l.depth + 1

abbrev pub invariant-walk_data_list-loop-i : goal.invariant-walk_data_list-loop-i
invariant-walk_data_list-loop-i l = Turning l.left (layout_of l.layout) l.addr l.count l.initial.walker l.walker l.i
