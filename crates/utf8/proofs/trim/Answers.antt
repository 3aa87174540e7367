-- The end is trimmed of what is left once the start is.
use Rattle.std.proofs.Common.{ap, ◌∙◌}
use Rattle.utf8.specs.White.{trim_end, trim}
use Rattle.utf8.proofs.Slices.{part_of}
use Rattle.utf8.proofs.trim.Goals as goal

pub returns-clause-part : goal.returns-clause-part
returns-clause-part c = part_of c.trim_end.ensures.front c.trim_start.ensures.back

pub returns-clause-trimmed : goal.returns-clause-trimmed
unfolding trim
returns-clause-trimmed c = c.trim_end.ensures.trimmed ∙ ap trim_end c.trim_start.ensures.trimmed
