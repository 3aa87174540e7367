-- `extra_identification` meets its contract: the block's bytes are there, and its fields fill one line.
use Rattle.describe.proofs.Said.{id_begins, id_fits, id_own}
use Rattle.describe.proofs.Lines.{id_line}
use Rattle.describe.proofs.Written.{writes_as}
use Rattle.describe.proofs.extras.extra_identification.Goals as goal

pub slice_bounds-fields-count : goal.slice_bounds-fields-count
slice_bounds-fields-count c = id_begins c.requires

pub slice_bounds-fields-start : goal.slice_bounds-fields-start
slice_bounds-fields-start c = id_begins c.requires

pub fields-id-requires : goal.fields-id-requires
fields-id-requires c = id_fits c.requires

pub returns : goal.returns
returns c = let said = id_line c.requires _ (id_own c.requires _ c.fields-id.ensures.says) in writes_as c.put_line.ensures (cc)
