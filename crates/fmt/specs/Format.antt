-- A text made of a template and numbers, as Rust's `format!`. In the template one byte stands for a number:
-- % for {}, ! for {:>10}, * for {:x}, & for {:02x}, ^ for {:04x}, ~ for {:08x}, $ for {:010x}. Assumes nothing.
use Rattle.std.specs.Prelude.{ℕ, ◌+◌, cond, List, [], ◌∷◌, ◌++◌, eqb, get_or}
use Rattle.fmt.specs.Digits.{dec, dec_right, hex}

-- the text for a byte of the template, with the number x
abbrev pub piece : ℕ → ℕ → List ℕ
piece b x =
    cond (eqb b 37) (dec x) (cond (eqb b 33) (dec_right 10 x) (cond (eqb b 42) (hex 0 x) (cond (eqb b 38) (hex 2 x)
    (cond (eqb b 94) (hex 4 x) (cond (eqb b 126) (hex 8 x) (cond (eqb b 36) (hex 10 x) (b ∷ [])))))))

-- how many numbers it takes
abbrev pub takes : ℕ → ℕ
takes b =
    cond (eqb b 37) 1 (cond (eqb b 33) 1 (cond (eqb b 42) 1 (cond (eqb b 38) 1 (cond (eqb b 94) 1 (cond (eqb b 126) 1 (cond (eqb b 36) 1 0))))))

-- the text of a template, with the numbers from the jth on; one that is missing is 0
unfoldable pub format_from : List ℕ → List ℕ → ℕ → List ℕ
format_from [] xs j = []
format_from (b ∷ t) xs j = piece b (get_or xs j 0) ++ format_from t xs (j + takes b)

unfoldable pub format : List ℕ → List ℕ → List ℕ
format t xs = format_from t xs 0
