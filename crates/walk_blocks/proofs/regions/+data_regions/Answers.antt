-- `walk_data_list` and `walk_data_region` meet their contracts: they call each other, and the depth falls at each list entered.
use Rattle.std.proofs.Common.{sym, ◌∙◌}
use Rattle.walk_state.specs.Within.{link_of}
use Rattle.walk_state.proofs.Steps.{handed, led}
use Rattle.walk_blocks.proofs.DataRegions.{region_list, region_block, list_off, list_seen, list_on, turn_on, turn_off, turn_last}
use Rattle.walk_blocks.proofs.regions.+data_regions.Goals as goal

pub walk_data_list-returns-in_err-count : goal.walk_data_list-returns-in_err-count
walk_data_list-returns-in_err-count t c = handed _ c.from_residual.ensures.1 (list_off _ _ _ c.in_err-count.ensures.opens)

pub walk_data_list-returns-in_default : goal.walk_data_list-returns-in_default
walk_data_list-returns-in_default t c = list_seen _ _ _ (rw c.in_default.is at c.in_ok-count.ensures.opens)

pub walk_data_list-returns-in_err-walk_data_region : goal.walk_data_list-returns-in_err-walk_data_region
walk_data_list-returns-in_err-walk_data_region t c =
    handed _ c.from_residual-in_err-walk_data_region.ensures.1
    (list_on _ _ _ (rw c.in-Some.is at c.in_ok-count.ensures.opens)
    (turn_off c.loop-i.invariant c.loop-i-test.true _ c.data_link.ensures _ c.make_link-link.ensures (led _ _ c.follow.ensures c.in_err-walk_data_region.ensures)))

pub walk_data_list-loop-i-preserved : goal.walk_data_list-loop-i-preserved
walk_data_list-loop-i-preserved t c =
    turn_on c.loop-i.invariant c.loop-i-test.true _ c.data_link.ensures _ c.make_link-link.ensures (led _ _ c.follow.ensures c.in_ok-walk_data_region.ensures)

pub walk_data_list-returns : goal.walk_data_list-returns
walk_data_list-returns t c =
    let n = rw c.in-Some.is at c.in_ok-count.ensures.inside in
    list_on _ _ _ (rw c.in-Some.is at c.in_ok-count.ensures.opens)
    (turn_last c.loop-i.invariant c.loop-i-test.false n.some _ c.data_link-2.ensures _ c.make_link-next.ensures (led _ _ c.follow-2.ensures c.walk_data_region-2.ensures))

pub walk_data_region-returns-then-is_target : goal.walk_data_region-returns-then-is_target
walk_data_region-returns-then-is_target t c =
    region_list c.args.depth _ (link_of c.args.link) (sym (c.is_target.ensures c.args.link.target) ∙ c.if-is_target.true) c.walk_data_list.ensures

pub walk_data_region-returns : goal.walk_data_region-returns
walk_data_region-returns t c =
    region_block c.args.depth _ (link_of c.args.link) (sym (c.is_target.ensures c.args.link.target) ∙ c.if-is_target.false) c.walk_data_block.ensures
