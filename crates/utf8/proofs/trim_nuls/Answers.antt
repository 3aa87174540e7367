-- The end is trimmed of what is left once the start is.
use Rattle.std.proofs.Common.{ap, ◌∙◌}
use Rattle.utf8.specs.Nul.{trim_end_nuls, trim_nuls}
use Rattle.utf8.proofs.Slices.{part_of}
use Rattle.utf8.proofs.trim_nuls.Goals as goal

pub returns-clause-part : goal.returns-clause-part
returns-clause-part c = part_of c.trim_end_nuls.ensures.front c.trim_start_nuls.ensures.back

pub returns-clause-trimmed : goal.returns-clause-trimmed
unfolding trim_nuls
returns-clause-trimmed c = c.trim_end_nuls.ensures.trimmed ∙ ap trim_end_nuls c.trim_start_nuls.ensures.trimmed
