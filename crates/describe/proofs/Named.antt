-- The name that a link leads to, as it is shown.
use Rattle.std.proofs.Common.{◌≡◌, ℕ, ◌<◌, ◌^◌, List, length, Option, Some, None, Result, Ok, Err}
use Rattle.std.specs.Borrow.{Bor}
use Rattle.utf8.specs.Utf8.{lossy}
use Rattle.mdf4.specs.Kinds.{make_link}
use Rattle.mdf4.specs.Describe.{name_bytes, name_text}
use Rattle.blocks.specs.declared.error.MdfError.{MdfError}
use Rattle.channel_name.specs.Name.{name_at, name_read}
use Rattle.channel_name.proofs.Names.{name_is, name_none}
use Rattle.fmt.specs.Text.{Writes}
use Rattle.fmt.specs.declared.Page.{Page}
use Rattle.fmt.proofs.Text.{writes_none}

module _ (r : List ℕ) (a : ℕ) (x : Result (Option (Bor (List ℕ))) MdfError) (e : name_read x ≡ name_at r (make_link r a)) where
  pub name_some : (t : Bor (List ℕ)) → x ≡ Ok (Some t) → lossy t.now ≡ name_text (name_bytes r (make_link r a))
  name_some t h = name_is r (make_link r a) (rw h at e)

  pub name_empty : x ≡ Ok None → (p : Page) → Writes p (name_text (name_bytes r (make_link r a))) p
  name_empty h p = rw (← (name_is r (make_link r a) (rw h at e))) (writes_none p)

  pub name_refused : length r < 2 ^ 64 → (f : MdfError) → x ≡ Err f → (p : Page) → Writes p (name_text (name_bytes r (make_link r a))) p
  name_refused small f h p = rw (name_none r a small (rw h at e)) (writes_none p)
