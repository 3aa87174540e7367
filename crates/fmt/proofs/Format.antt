-- One turn of the loop that writes a template, and its end. Assumes nothing.
use Prim.Native.Nat.{ℕ, ◌+◌, ◌≤◌, ◌<◌}
use native.Mathlib.Numerals.{add-one}
use mathlib.Core.Path.{◌≡◌, refl}
use mathlib.Core.List.{List, [], ◌∷◌, ◌++◌}
use lib.ListN.{length, get_or, drop, drop_of_length-le}
use lib.Seq.{drop-cons}
use Rattle.fmt.specs.Text.{ascii}
use Rattle.fmt.specs.Digits.{dec, hex}
use Rattle.fmt.specs.Format.{piece, takes, format_from, format}

pub format_turn : (t xs : List ℕ) (i j : ℕ) → i < length t
    → format_from (drop i t) xs j ≡ piece (get_or t i 0) (get_or xs j 0) ++ format_from (drop (i + 1) t) xs (j + takes (get_or t i 0))
unfolding format_from
format_turn t xs i j h = rw (add-one, drop-cons t i 0)

pub format_end : (t xs : List ℕ) (i j : ℕ) → length t ≤ i → format_from (drop i t) xs j ≡ []
unfolding format_from
format_end t xs i j h = rw (drop_of_length-le t h)

format_example : (a b : ℕ) → format (ascii "a=%, b=0x$.") (a ∷ b ∷ []) ≡ ascii "a=" ++ (dec a ++ (ascii ", b=0x" ++ (hex 10 b ++ ascii ".")))
unfolding format format_from
format_example a b = refl
