-- The papers' number, place, a and b of each refusal, and what an answer says.
use Rattle.std.specs.Prelude.{ℕ, Result, Ok, Err}
use Rattle.mdf4.specs.Act.{Refusal, refusal, Out, ok, err}
use Rattle.blocks.specs.declared.error.Refusal as declared
use Rattle.blocks.specs.declared.error.VersionPart.{VersionPart}
use Rattle.blocks.specs.declared.error.VersionPart.TheVariants.{Utf8, Major, Minor}
use Rattle.blocks.specs.declared.error.MdfError.{MdfError}
use Rattle.blocks.specs.declared.error.MdfError.TheVariants.{TooShortBuffer, FileIdentifierError, InvalidVersionString, FileVersioningError, BlockIDError, BlockSerializationError, SumOverflow, Conversion, VisitedFull, BlocksFull, LinksFull, TableTooShort, OutputTooShort, TooDeep, Unfinalized}

abbrev pub part_number : VersionPart → ℕ
part_number Utf8 = 1
part_number Major = 2
part_number Minor = 3

abbrev pub numbers : MdfError → Refusal
numbers (TooShortBuffer place expected actual) = refusal 1 place expected actual
numbers FileIdentifierError = refusal 2 0 0 0
numbers (InvalidVersionString part) = refusal 3 8 part 0
numbers (FileVersioningError number) = refusal 4 8 number 0
numbers (BlockIDError place expected actual) = refusal 5 place expected actual
numbers (BlockSerializationError place links_nr block_len) = refusal 6 place links_nr block_len
numbers (SumOverflow place a b) = refusal 7 place a b
numbers (Conversion place channel) = refusal 9 place channel 0
numbers (VisitedFull place lent) = refusal 10 place lent 0
numbers (BlocksFull place lent) = refusal 11 place lent 0
numbers (LinksFull place lent) = refusal 12 place lent 0
numbers (TableTooShort lent needed) = refusal 13 0 lent needed
numbers (OutputTooShort lent needed) = refusal 14 0 lent needed
numbers (TooDeep place limit) = refusal 15 place limit 0
numbers (Unfinalized standard custom) = refusal 16 60 standard custom

-- the four numbers as the code has them
abbrev pub refusal_of : declared.Refusal → Refusal
refusal_of r = refusal r.number r.place r.a r.b

-- a value, or a refusal's four numbers
abbrev pub told : {A : Type 0} → Result A MdfError → Out A
told (Ok x) = ok x
told (Err e) = err (numbers e)

-- the same, with the value read by f
abbrev pub told_as : {A B : Type 0} → (A → B) → Result A MdfError → Out B
told_as f (Ok x) = ok (f x)
told_as f (Err e) = err (numbers e)
