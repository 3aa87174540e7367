-- `describe_channel` meets its contract: the fields are those of the block's own bytes.
use Rattle.fmt.proofs.Text.{writes_then}
use Rattle.describe.proofs.Said.{cn_said}
use Rattle.describe.proofs.Written.{writes_as}
use Rattle.describe.proofs.descriptions.describe_channel.Goals as goal

pub returns : goal.returns
returns c =
    let said = cn_said c.requires c.fields_of-cn.ensures in
    writes_as (writes_then (writes_then (writes_then (writes_then c.put_format.ensures c.put_name.ensures) c.put_format-2.ensures) c.put_data_type.ensures) c.put_format-3.ensures) (cc)
