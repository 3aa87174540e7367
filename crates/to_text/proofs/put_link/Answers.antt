-- `put_link` meets its contract: five texts, one after the other.
use Rattle.fmt.proofs.Text.{writes_then}
use Rattle.mdf4.specs.Listing.{link_line}
use Rattle.to_text.proofs.put_link.Goals as goal

pub returns : goal.returns
unfolding link_line
returns c =
    let name = writes_then (writes_then c.put_bytes.ensures c.put_link_name_left.ensures) c.put_bytes-2.ensures in
    writes_then (writes_then name c.put_target.ensures) c.put_bytes-3.ensures
