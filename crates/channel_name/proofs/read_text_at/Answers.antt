-- The name stands in the recording: NULs come off the part behind the header.
use native.Mathlib.Omega.{arith}
use Rattle.blocks.proofs.Parts.{cut_part, part_part}
use Rattle.channel_name.proofs.read_text_at.Goals as goal

pub returns-clause-part : goal.returns-clause-part
returns-clause-part c = (part_part (cut_part c.args.file.now _ _ (omega arith) (omega arith)) c.trim_nuls.ensures.part).0
