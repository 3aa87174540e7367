-- What the identification says, and the reading of its version.
use Rattle.std.specs.Prelude.{◌≡◌, List, ℕ, ◌+◌, ◌*◌, ◌^◌, ◌≤◌, leb, ltb, length, Result}
use Rattle.std.proofs.Math.Seq.{slice}
use Rattle.utf8.specs.Utf8.{Chunk, chunks}
use Rattle.utf8.specs.White.{trim, trim_end}
use Rattle.utf8.specs.Parts.{IsPart}
use Rattle.mdf4.specs.Bytes.{bytes, num}
use Rattle.mdf4.specs.Act.{Out, ok, refusal, and_then, check, ID}
use Rattle.mdf4.specs.Kinds.{read_block}
use Rattle.mdf4.specs.Version.{before_dot, from_dot, parse_u16, parse_minor}
use Rattle.mdf4.specs.Walk.{content_ok}
use Rattle.blocks.specs.Errors.{told_as}
use Rattle.blocks.specs.declared.error.MdfError.{MdfError}
use Rattle.blocks.specs.declared.identification_block.IdentificationBlock.{IdentificationBlock}

-- ---- the version

-- the last steps of `version`: of its two parts, and of the trimmed text
unfoldable pub version_number : ℕ → ℕ → Out ℕ
version_number major minor =
    and_then (check (ltb (major * 100 + minor) (2 ^ 16)) (refusal 7 8 major minor)) (λ u.
    and_then (check (leb 410 (major * 100 + minor)) (refusal 4 8 (major * 100 + minor) 0)) (λ u.
    ok (major * 100 + minor)))

unfoldable pub version_of_text : List ℕ → Out ℕ
version_of_text t =
    and_then (parse_u16 (refusal 3 8 2 0) (before_dot t)) (λ major.
    and_then (parse_minor (refusal 3 8 3 0) (from_dot t)) (λ minor.
    version_number major minor))

-- ---- the block

-- what is printed of it
pub record Identification : Type 0 where
  pub version : List Chunk
  pub program : List Chunk
  pub version_number : ℕ
  pub standard_unfinalized_flags : ℕ
  pub custom_unfinalized_flags : ℕ

-- of the block's own bytes
unfoldable pub identification_of : List ℕ → Identification
identification_of o = record {
  version = trim (chunks (bytes o 8 8));
  program = trim_end (chunks (bytes o 16 8));
  version_number = num o 28 2;
  standard_unfinalized_flags = num o 60 2;
  custom_unfinalized_flags = num o 62 2;
}

-- of the code's struct
unfoldable pub identified : IdentificationBlock → Identification
identified b = record {
  version = chunks b.version.now;
  program = chunks b.program.now;
  version_number = b.version_number;
  standard_unfinalized_flags = b.standard_unfinalized_flags;
  custom_unfinalized_flags = b.custom_unfinalized_flags;
}

abbrev pub identification_read : Result IdentificationBlock MdfError → Out Identification
identification_read x = told_as identified x

-- the block of a recording, or refusal 1, 2, 3, 7 or 4
unfoldable pub identification : List ℕ → Out Identification
identification r = and_then (read_block ID r 0) (λ o. and_then (content_ok ID o) (λ u. ok (identification_of o)))

-- its texts stand in the recording, the program from 16 on
pub record Parts (r : List ℕ) (b : IdentificationBlock) : Type 0 where
  pub version : IsPart r b.version.now
  pub program : b.program.now ≡ slice 16 (16 + length b.program.now) r
  pub program_high : 16 + length b.program.now ≤ length r
