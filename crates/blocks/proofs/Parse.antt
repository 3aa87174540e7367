-- What a caller knows of a block that was parsed, and what a parser answers of one that can be read.
use mathlib.Core.Path.{◌≡◌}
use mathlib.Core.List.{List}
use Prim.Native.Nat.{ℕ}
use Rattle.std.specs.Prelude.{Result, Ok, Err}
use Rattle.mdf4.specs.Act.{Out, ok, and_then, Kind}
use Rattle.mdf4.specs.Kinds.{read_block}
use Rattle.mdf4.proofs.Results.{and_then_ok}
use Rattle.blocks.specs.Errors.{told}
use Rattle.blocks.specs.Parse.{parsed}
use Rattle.blocks.specs.declared.error.MdfError.{MdfError}

-- its own bytes were read, and the fields are theirs
pub parsed_ok : {A : Type 0} (f : List ℕ → A) (k : Kind) (r : List ℕ) (a : ℕ) {b : A} → parsed f k r a ≡ ok b
    → (o : List ℕ) × (read_block k r a ≡ ok o) × (f o ≡ b)
unfolding parsed
parsed_ok f k r a {b = b} e =
    let p = and_then_ok (read_block k r a) _ b e in
    let q : ◌≡◌ {A = Out _} (ok (f p.0)) (ok b) = p.2 in
    (p.0, p.1, cc)

-- a block whose own bytes are o is parsed
pub parsed_read : {A : Type 0} (f : List ℕ → A) (k : Kind) (r : List ℕ) (a : ℕ) {o : List ℕ} → read_block k r a ≡ ok o → (x : Result A MdfError)
    → told x ≡ parsed f k r a → x ≡ Ok (f o)
unfolding parsed and_then
parsed_read f k r a {o} q (Ok y) e = let p : ok y ≡ ok (f o) = rw q at e in cc
parsed_read f k r a {o} q (Err y) e = let p : told (Err y) ≡ ok (f o) = rw q at e in cc
