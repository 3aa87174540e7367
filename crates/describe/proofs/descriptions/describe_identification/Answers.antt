-- `describe_identification` meets its contract: the block's bytes are there, and its texts are parts of them.
use Rattle.fmt.proofs.Text.{writes_then}
use Rattle.describe.proofs.Said.{id_begins, id_fits, id_own, id_said}
use Rattle.describe.proofs.descriptions.describe_identification.Goals as goal

pub slice_bounds-fields-count : goal.slice_bounds-fields-count
slice_bounds-fields-count c = id_begins c.requires

pub slice_bounds-fields-start : goal.slice_bounds-fields-start
slice_bounds-fields-start c = id_begins c.requires

pub fields-id-requires : goal.fields-id-requires
fields-id-requires c = id_fits c.requires

pub returns : goal.returns
returns c =
    rw (id_said c.requires _ (id_own c.requires _ c.fields-id.ensures.says))
    (writes_then (writes_then (writes_then (writes_then c.put_bytes.ensures c.put_lossy.ensures) c.put_bytes-2.ensures) c.put_lossy-2.ensures) c.put_bytes-3.ensures)
