-- `put_row` meets its contract: six texts, one after the other.
use Rattle.fmt.proofs.Text.{writes_then}
use Rattle.mdf4.specs.Listing.{row_lines}
use Rattle.tables.specs.Rows.{row_of}
use Rattle.to_text.proofs.put_row.Goals as goal

pub returns : goal.returns
unfolding row_lines row_of
returns c =
    let columns = writes_then (writes_then c.put_format.ensures c.put_mark_column.ensures) c.put_bytes.ensures in
    writes_then (writes_then (writes_then columns c.put_description.ensures) c.put_bytes-2.ensures) c.put_extra.ensures
