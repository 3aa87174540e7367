-- `describe_data_list` meets its contract: the fields are those of the block's own bytes.
use Rattle.fmt.proofs.Text.{writes_then}
use Rattle.describe.proofs.Said.{dl_said}
use Rattle.describe.proofs.Written.{writes_as}
use Rattle.describe.proofs.descriptions.describe_data_list.Goals as goal

pub returns : goal.returns
returns c = let said = dl_said c.requires c.fields_of-dl.ensures in writes_as (writes_then (writes_then c.put_format.ensures c.put_equal_length.ensures) c.put_bytes.ensures) (cc)
