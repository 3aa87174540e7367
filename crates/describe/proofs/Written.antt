-- A text that was written, by another name.
use Rattle.std.proofs.Common.{◌≡◌, ℕ, ℤ, List, ◌++◌}
use Rattle.fmt.specs.Text.{Writes}
use Rattle.fmt.specs.Digits.{dec_signed}
use Rattle.fmt.specs.declared.Page.{Page}

pub writes_as : {p q : Page} {s t : List ℕ} → Writes p s q → s ≡ t → Writes p t q
writes_as w e = rw (← e) w

-- a signed number that was read off a struct
pub signed_as : {p q : Page} (s t : List ℕ) {y z : ℤ} → Writes p (s ++ dec_signed y ++ t) q → y ≡ z → Writes p (s ++ dec_signed z ++ t) q
signed_as s t w e = rw (← e) w
