-- Tables of zeros hold the state in which a walk starts. Assumes nothing.
use Rattle.std.proofs.Common.{◌≡◌, refl, ap, List, [], ℕ, ◌-◌, ◌/◌, length, replicate, arith}
use Rattle.std.proofs.lemmas.List.{length-replicate}
use Rattle.mdf4.specs.Bytes.{concat_map}
use Rattle.mdf4.specs.Walk.{start}
use Rattle.mdf4.specs.Answers.{filled, block_row_words}
use Rattle.tables.specs.Rows.{table, held_rows, held_links, Used}
use Rattle.walk_state.specs.Within.{held, none, Within}

pub held_none : (v b l : List ℕ) → held none v b l ≡ start (record { visited = length v; blocks = length b / block_row_words; links = length l / 2 })
unfolding held held_rows held_links table start
held_none v b l = refl

used_none : (n : ℕ) → Used 0 [] (replicate n 0)
unfolding filled
used_none n =
    let e : n ≡ length (replicate {A = ℕ} n 0) - 0 = omega (arith, length-replicate {A = ℕ} n 0) in
    record { fits = omega arith; is = ap (λ (j : ℕ). replicate {A = ℕ} j 0) e }

pub within_none : (n m p : ℕ) → Within none (replicate n 0) (replicate m 0) (replicate p 0)
unfolding held_rows held_links table concat_map
within_none n m p = record { visited = used_none n; rows = used_none m; links = used_none p; dg = omega arith; cg = omega arith; cn = omega arith }
