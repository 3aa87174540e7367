-- `extra_data_list` meets its contract: the fields are those of the block's own bytes.
use Rattle.describe.proofs.Lines.{dl_line}
use Rattle.describe.proofs.Written.{writes_as}
use Rattle.describe.proofs.extras.extra_data_list.Goals as goal

pub returns : goal.returns
returns c = let said = dl_line c.requires c.fields_of-dl.ensures in writes_as c.put_line.ensures (cc)
