-- What the reading of a channel's name answers.
use Rattle.std.specs.Prelude.{List, [], ℕ, length, Option, Some, None, Result}
use Rattle.std.specs.Borrow.{Bor}
use Rattle.utf8.specs.Utf8.{lossy}
use Rattle.mdf4.specs.Act.{Out, ok, and_then, Link}
use Rattle.mdf4.specs.Kinds.{name_head, name_check}
use Rattle.mdf4.specs.Describe.{name_bytes, name_text}
use Rattle.blocks.specs.Errors.{told_as}
use Rattle.blocks.specs.declared.error.MdfError.{MdfError}

-- the name as it is shown
abbrev pub name_shown : Option (Bor (List ℕ)) → List ℕ
name_shown (Some text) = lossy text.now
name_shown None = []

abbrev pub name_read : Result (Option (Bor (List ℕ))) MdfError → Out (List ℕ)
name_read x = told_as name_shown x

-- refusal 7, then the name that the link leads to
unfoldable pub name_at : List ℕ → Link → Out (List ℕ)
name_at r l = and_then (name_check (length r) l (name_head r l)) (λ u. ok (name_text (name_bytes r l)))
