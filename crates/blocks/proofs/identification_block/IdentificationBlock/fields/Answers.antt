-- `IdentificationBlock::fields` meets its contract: each field stands at its place, and the texts are parts of the recording.
use Rattle.blocks.specs.IdentificationBlock.{identified}
use Rattle.blocks.proofs.Identification.{identified_is, version_part, program_is, program_high}
use Rattle.blocks.proofs.identification_block.IdentificationBlock.fields.Goals as goal

pub returns-clause-says : goal.returns-clause-says
unfolding identified
returns-clause-says c =
    identified_is c.args.file.now _ _ c.trim.ensures.trimmed c.trim_end.ensures.trimmed c.read_u16.ensures c.read_u16-2.ensures c.read_u16-3.ensures

pub returns-clause-parts : goal.returns-clause-parts
returns-clause-parts c =
    record {
      version = version_part c.requires c.trim.ensures.part;
      program = program_is c.args.file.now c.requires c.trim_end.ensures.front;
      program_high = program_high c.args.file.now c.requires c.trim_end.ensures.front;
    }
