-- `fixed_names` meets its contract: the names of each kind are the definition's.
use Rattle.mdf4.specs.Kinds.{shape}
use Rattle.describe.proofs.Names.{no_names}
use Rattle.describe.proofs.links.fixed_names.Goals as goal

pub returns-in-HD : goal.returns-in-HD
unfolding shape
returns-in-HD c = rw c.in-HD.is

pub returns-in-DG : goal.returns-in-DG
unfolding shape
returns-in-DG c = rw c.in-DG.is

pub returns-in-CG : goal.returns-in-CG
unfolding shape
returns-in-CG c = rw c.in-CG.is

pub returns-in-CN : goal.returns-in-CN
unfolding shape
returns-in-CN c = rw c.in-CN.is

pub returns-in-SI : goal.returns-in-SI
unfolding shape
returns-in-SI c = rw c.in-SI.is

pub returns-in-DL : goal.returns-in-DL
unfolding shape
returns-in-DL c = rw c.in-DL.is

pub returns-in-ID : goal.returns-in-ID
returns-in-ID c = no_names c.args.kind c.in-ID.is
