-- Laws of the lent tables: words in use and zeros behind them, and rows of k words each. Assumes nothing.
use mathlib.Core.Path.{◌≡◌, refl, sym, ap, ap₂, ◌∙◌}
use mathlib.Core.List.{List, [], ◌∷◌, ◌++◌, append_assoc}
use Prim.Native.Nat.{ℕ, zero, suc, ◌+◌, ◌-◌, ◌*◌, ◌≤◌}
use native.Mathlib.Omega.{arith}
use native.Mathlib.Numerals.{add-one}
use native.Mathlib.Nat.{suc-mul}
use lib.ListN.{length, take, drop, replicate, length-append}
use lib.Seq.{sets, sets-eq, length-sets, take-add, drop_at, take_at, take-take, length-take-le, drop-append-add}
use Rattle.mdf4.specs.Bytes.{concat_map}
use Rattle.mdf4.specs.Answers.{filled}
use Rattle.mdf4.proofs.Lists.{concat_map_snoc}
use Rattle.fmt.proofs.Room.{drop_replicate}
use Rattle.tables.specs.Rows.{table, Used}

-- words stored behind those in use
pub used_more : (n : ℕ) (ws vs t : List ℕ) → Used n ws t → length ws ≡ n → n + length vs ≤ length t → Used (n + length vs) (ws ++ vs) (sets t n vs)
unfolding filled
used_more n ws vs t u e h =
    let m : ℕ = length vs in
    let z : List ℕ = replicate (length t - length ws) 0 in
    let front : take n t ≡ ws = ap (take n) u.is ∙ take_at ws z n e in
    let at : n + m ≡ length ws + m = omega (arith, e) in
    let left : length t - length ws - m ≡ length t - length (ws ++ vs) = omega (arith, length-append ws vs) in
    let back : drop (n + m) t ≡ replicate (length t - length (ws ++ vs)) 0 =
    ap (drop (n + m)) u.is ∙ ap (λ (j : ℕ). drop j (ws ++ z)) at ∙ drop-append-add ws z m ∙ drop_replicate m (length t - length ws) 0
    ∙ ap (λ (j : ℕ). replicate j 0) left in
    record {
      fits = rw length-sets h;
      is = rw length-sets (sets-eq vs t n h ∙ ap₂ (λ (x y : List ℕ). x ++ vs ++ y) front back);
    }

module _ {A : Type 0} (k : ℕ) (f : List ℕ → A) where
  pub table_length : (n : ℕ) (t : List ℕ) → length (table k f n t) ≡ n
  unfolding table
  table_length zero t = refl
  table_length (suc n) t = length-append (table k f n t) (f (take k (drop (n * k) t)) ∷ []) ∙ omega (arith, table_length n t)

  -- a row depends on the words before its end alone
  row_same : (n : ℕ) (t u : List ℕ) → n + k ≤ length t → n + k ≤ length u → take (n + k) t ≡ take (n + k) u → take k (drop n t) ≡ take k (drop n u)
  row_same n t u ht hu e =
      sym (drop_at (take n t) (take k (drop n t)) n (length-take-le n t (omega arith)))
      ∙ ap (drop n) (sym (take-add n k t) ∙ e ∙ take-add n k u)
      ∙ drop_at (take n u) (take k (drop n u)) n (length-take-le n u (omega arith))

  table_same : (n : ℕ) (t u : List ℕ) → n * k ≤ length t → n * k ≤ length u → take (n * k) t ≡ take (n * k) u → table k f n t ≡ table k f n u
  unfolding table
  table_same zero t u ht hu e = refl
  table_same (suc n) t u ht hu e =
      let s : suc n * k ≡ n * k + k = suc-mul n k in
      let e' : take (n * k + k) t ≡ take (n * k + k) u = rw s at e in
      ap₂ (λ (x : List A) (y : A). x ++ y ∷ [])
      (table_same n t u (omega arith) (omega arith)
      (sym (take-take (n * k) (n * k + k) t (omega arith)) ∙ ap (take (n * k)) e' ∙ take-take (n * k) (n * k + k) u (omega arith)))
      (ap f (row_same (n * k) t u (omega arith) (omega arith) e'))

  -- one row more, whose words stand at its place and before which nothing changed
  table_snoc : (n : ℕ) (t vs : List ℕ) → length vs ≡ k → n * k + k ≤ length t → table k f (n + 1) (sets t (n * k) vs) ≡ table k f n t ++ f vs ∷ []
  unfolding table
  table_snoc n t vs e h =
      let p : List ℕ = take (n * k) t in
      let q : List ℕ = drop (n * k + length vs) t in
      let lp : length p ≡ n * k = length-take-le (n * k) t (omega arith) in
      let at : sets t (n * k) vs ≡ p ++ (vs ++ q) = sets-eq vs t (n * k) (omega arith) ∙ append_assoc p vs q in
      let long : length (p ++ (vs ++ q)) ≡ length t = ap length (sym at) ∙ length-sets t (n * k) vs in
      rw (add-one, at)
      (ap₂ (λ (x : List A) (y : A). x ++ y ∷ [])
      (table_same n (p ++ (vs ++ q)) t (omega arith) (omega arith) (take_at p (vs ++ q) (n * k) lp))
      (ap f (ap (take k) (drop_at p (vs ++ q) (n * k) lp) ∙ take_at vs q k e)))

  -- rows whose words are g's
  module _ (g : A → List ℕ) (sized : (x : A) → length (g x) ≡ k) (back : (x : A) → f (g x) ≡ x) where
    words_length : (xs : List A) → length (concat_map g xs) ≡ length xs * k
    unfolding concat_map
    words_length [] = omega arith
    words_length (x ∷ xs) = length-append (g x) (concat_map g xs) ∙ omega (arith, sized x, words_length xs, suc-mul (length xs) k)

    module _ (n : ℕ) (t : List ℕ) (x : A) (room : n * k + k ≤ length t) where
      pub row_more : table k f (n + 1) (sets t (n * k) (g x)) ≡ table k f n t ++ x ∷ []
      row_more = table_snoc n t (g x) (sized x) room ∙ ap (λ (y : A). table k f n t ++ y ∷ []) (back x)

      pub words_more : Used (n * k) (concat_map g (table k f n t)) t
          → Used ((n + 1) * k) (concat_map g (table k f (n + 1) (sets t (n * k) (g x)))) (sets t (n * k) (g x))
      words_more u =
          let ws : List ℕ = concat_map g (table k f n t) in
          let long : length ws ≡ n * k = words_length (table k f n t) ∙ ap (λ (j : ℕ). j * k) (table_length n t) in
          let next : n * k + length (g x) ≡ (n + 1) * k = rw (sized x, add-one, suc-mul) in
          let m : Used (n * k + length (g x)) (ws ++ g x) (sets t (n * k) (g x)) = used_more (n * k) ws (g x) t u long (rw sized room) in
          rw (row_more, concat_map_snoc) (rw next at m)
