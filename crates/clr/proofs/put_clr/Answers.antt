-- `put_clr` meets its contract.
use Rattle.std.proofs.Common.{◌∙◌, rules}
use Rattle.clr.proofs.Writing.{clr_is}
use Rattle.clr.proofs.put_clr.Goals as goal

pub returns : goal.returns
returns c =
    let version = rw c.to_le_bytes.ensures at c.put_bytes-2.ensures in
    let len = rw c.to_le_bytes-2.ensures at c.put_bytes-3.ensures in
    let count = rw c.to_le_bytes-3.ensures at c.put_bytes-4.ensures in
    let all = clr_is c.args.len _ c.count_ranges-count.ensures c.put_bytes.ensures version c.put_times.ensures len count c.put_ranges.ensures in
    let name = all.same_reference ∙ c.new-page.ensures.same_reference in
    let wrote = rw (c.new-page.ensures.out, c.new-page.ensures.at) at all.wrote in
    search rules
