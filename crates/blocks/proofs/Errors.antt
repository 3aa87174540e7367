-- The numbers of the refusals: 8 is none of them (document 02, order 2).
use mathlib.Core.Path.{◌≡◌}
use native.Mathlib.Omega.{arith}
use Rattle.blocks.specs.declared.error.MdfError.{MdfError}
use Rattle.blocks.specs.declared.error.MdfError.TheVariants.{TooShortBuffer, FileIdentifierError, InvalidVersionString, FileVersioningError, BlockIDError, BlockSerializationError, SumOverflow, Conversion, VisitedFull, BlocksFull, LinksFull, TableTooShort, OutputTooShort, TooDeep, Unfinalized}
use Rattle.blocks.specs.Errors.{numbers}

pub never_8 : (e : MdfError) → (numbers e).number ≡ 8 → ⊥
never_8 (TooShortBuffer place expected actual) h = omega arith
never_8 FileIdentifierError h = omega arith
never_8 (InvalidVersionString part) h = omega arith
never_8 (FileVersioningError number) h = omega arith
never_8 (BlockIDError place expected actual) h = omega arith
never_8 (BlockSerializationError place links_nr block_len) h = omega arith
never_8 (SumOverflow place a b) h = omega arith
never_8 (Conversion place channel) h = omega arith
never_8 (VisitedFull place lent) h = omega arith
never_8 (BlocksFull place lent) h = omega arith
never_8 (LinksFull place lent) h = omega arith
never_8 (TableTooShort lent needed) h = omega arith
never_8 (OutputTooShort lent needed) h = omega arith
never_8 (TooDeep place limit) h = omega arith
never_8 (Unfinalized standard custom) h = omega arith
