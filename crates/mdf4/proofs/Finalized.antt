-- Document 02, order 4, of the recording's own bytes: what the definition asks of the two words of unfinalized flags, what clear list,
-- blanker and preview answer of it, and that no other entry does.
use mathlib.Core.Path.{◌≡◌, refl, sym, ap, ◌∙◌}
use mathlib.Core.Bool.{Bool, true, false, ◌&&◌}
use mathlib.Core.List.{List, []}
use mathlib.Core.Logic.{◌⊎◌, inl, inr}
use Prim.Native.Nat.{ℕ, zero, suc, ◌+◌, ◌-◌, ◌*◌, ◌/◌, ◌≤◌, ◌<◌}
use native.Mathlib.Omega.{arith}
use lib.Dec.{eqb}
use lib.ListN.{length, get_or}
use borrow.Author.Tests.{eqb-true, eqb-false}
use Rattle.mdf4.specs.Bytes.{bytes, little, num}
use Rattle.mdf4.specs.Act.{Refusal, refusal, Out, ok, err, and_then, check, State}
use Rattle.mdf4.specs.Layout.{Layout, walk_state, layout_if, layout, finalized}
use Rattle.mdf4.specs.Answers.{Lent, Counts, Made, limits, pair_words, exit, laid, laid_finalized, clearable, layout_made, to_text_made, to_tree_made, path_made, clear_list_made, blank_made, preview_made, layout_exit, to_text_exit, to_tree_exit, path_exit, clear_list_exit, blank_exit, preview_exit}
use Rattle.mdf4.specs.Demand3.{Unfinalized, Finalizing, Unasked}
use Rattle.mdf4.proofs.Results.{never}
use Rattle.mdf4.proofs.Fields.{num_suc}
use Rattle.mdf4.proofs.Walk.{walk_id_whole}
use Rattle.mdf4.proofs.Numbers.{Low, low_ok, low_and_then, low_walk_state, low_layout_if, low_room, low_fitted, low_to_tree, low_exit}
use Rattle.mdf4.proofs.Laid.{state_walked}

-- a word by its two bytes
word_is : (r : List ℕ) (a : ℕ) → a + 2 ≤ length r → num r a 2 ≡ get_or r a 0 + 256 * get_or r (suc a) 0
unfolding num bytes little
word_is r a h =
    let e : num r a 2 ≡ get_or r a 0 + 256 * num r (suc a) 1 = num_suc r a 1 (omega arith) in
    let f : num r (suc a) 1 ≡ get_or r (suc a) 0 + 256 * num r (suc (suc a)) 0 = num_suc r (suc a) 0 (omega arith) in
    let g : num r (suc (suc a)) 0 ≡ 0 = refl in
    omega (arith, e, f, g)

module _ (r : List ℕ) (whole : 64 ≤ length r) where
  standard : num r 60 2 ≡ get_or r 60 0 + 256 * get_or r 61 0
  standard = word_is r 60 (omega arith)

  custom : num r 62 2 ≡ get_or r 62 0 + 256 * get_or r 63 0
  custom = word_is r 62 (omega arith)

  zero_at : num r 60 2 ≡ 0 → num r 62 2 ≡ 0 → (j : ℕ) → j < 4 → get_or r (60 + j) 0 ≡ 0
  zero_at p q zero l = omega (arith, standard)
  zero_at p q (suc zero) l = omega (arith, standard)
  zero_at p q (suc (suc zero)) l = omega (arith, custom)
  zero_at p q (suc (suc (suc zero))) l = omega (arith, custom)
  zero_at p q (suc (suc (suc (suc j)))) l = absurd (omega arith)

  zeros : num r 60 2 ≡ 0 → num r 62 2 ≡ 0 → (i : ℕ) → 60 ≤ i → i < 64 → get_or r i 0 ≡ 0
  zeros p q i m u =
      let z : 60 + (i - 60) ≡ i = omega arith in
      rw z at (zero_at p q (i - 60) (omega arith))

  -- a word that is not 0 has a byte that is not
  some_byte : (a : ℕ) → 60 ≤ a → a + 2 ≤ 64 → (num r a 2 ≡ 0 → ⊥) → Unfinalized r
  some_byte a l h f = go (eqb (get_or r a 0) 0) refl
    where
      go : (b : Bool) → eqb (get_or r a 0) 0 ≡ b → Unfinalized r
      go false e = record { at = a; from = l; to = omega arith; some = eqb-false (get_or r a 0) 0 e }
      go true e =
          record { at = suc a; from = omega arith; to = omega arith; some = λ z. f (omega (arith, z, eqb-true (get_or r a 0) 0 e, word_is r a (omega arith))) }

  abbrev flags : Refusal
  flags = refusal 16 60 (num r 60 2) (num r 62 2)

  -- both words are 0, or they are refused
  abbrev Asked : Out (Unit {0}) → Type 0
  Asked m = ((m ≡ ok tt) × (num r 60 2 ≡ 0) × (num r 62 2 ≡ 0)) ⊎ ((m ≡ err flags) × Unfinalized r)

  asked : Asked (finalized r)
  unfolding finalized check
  asked = go (eqb (num r 60 2) 0) refl (eqb (num r 62 2) 0) refl
    where
      go : (p : Bool) → eqb (num r 60 2) 0 ≡ p → (q : Bool) → eqb (num r 62 2) 0 ≡ q → Asked (check (p && q) flags)
      go true e true f = inl (refl, eqb-true (num r 60 2) 0 e, eqb-true (num r 62 2) 0 f)
      go true e false f = inr (refl, some_byte 62 (omega arith) (omega arith) (eqb-false (num r 62 2) 0 f))
      go false e q f = inr (refl, some_byte 60 (omega arith) (omega arith) (eqb-false (num r 60 2) 0 e))

  pub finalized_zeros : finalized r ≡ ok tt → (i : ℕ) → 60 ≤ i → i < 64 → get_or r i 0 ≡ 0
  finalized_zeros e = go asked
    where
      go : Asked (finalized r) → (i : ℕ) → 60 ≤ i → i < 64 → get_or r i 0 ≡ 0
      go (inl a) = zeros a.1 a.2
      go (inr a) = never (sym e ∙ a.0)

  unfinalized_refused : Unfinalized r → finalized r ≡ err flags
  unfinalized_refused u = go asked
    where
      go : Asked (finalized r) → finalized r ≡ err flags
      go (inl a) = absurd (u.some (zeros a.1 a.2 u.at u.from u.to))
      go (inr a) = a.0

module _ (n : Lent) (r : List ℕ) where
  -- the identification is there
  pub whole : (s : State) → walk_state (limits n) r ≡ ok s → 64 ≤ length r
  whole s e = walk_id_whole (limits n) r s (state_walked (limits n) r s e)

  -- clear list, blanker and preview: `f` is what each does behind the tests that they share, with numbers up to 15
  module _ (f : Layout → Out Made) (l : (y : Layout) → Low (f y)) where
    walk_first : (z : Refusal) → walk_state (limits n) r ≡ err z → (exit n (and_then (clearable n r) f)).answer ≡ err z
    unfolding clearable laid_finalized layout_if and_then exit
    walk_first z e = rw e

    refused : (s : State) → walk_state (limits n) r ≡ ok s → Unfinalized r
        → (exit n (and_then (clearable n r) f)).answer ≡ err (refusal 16 60 (get_or r 60 0 + 256 * get_or r 61 0) (get_or r 62 0 + 256 * get_or r 63 0))
    unfolding clearable laid_finalized layout_if and_then exit
    refused s e u = rw (e, unfinalized_refused r (whole s e) u, standard r (whole s e), custom r (whole s e))

    -- all but the test refuses with numbers up to 15
    low : finalized r ≡ ok tt → Low (and_then (clearable n r) f)
    unfolding clearable laid_finalized
    low h = low_and_then _ _ (low_and_then _ _ (low_layout_if (finalized r) (rw h (low_ok tt)) (limits n) (n.gaps / pair_words) r) (λ y. low_and_then _ _ (low_room _ _) (λ u. low_ok y))) l

    only : (z : Refusal) → (exit n (and_then (clearable n r) f)).answer ≡ err z → z.number ≡ 16 → Unfinalized r
    only z h k = go (walk_state (limits n) r) refl
      where
        go : (o : Out State) → walk_state (limits n) r ≡ o → Unfinalized r
        go (err x) e =
            let p : ◌≡◌ {A = Out Counts} (err x) (err z) = sym (walk_first x e) ∙ h in
            let q : x ≡ z = cc in
            absurd (omega (arith, k, ap (λ (w : Refusal). w.number) q, (low_walk_state (limits n) r).number x e))
        go (ok s) e = behind (asked r (whole s e))
          where
            behind : Asked r (whole s e) (finalized r) → Unfinalized r
            behind (inl a) = absurd (omega (arith, k, low_exit n (and_then (clearable n r) f) (low a.0) z h))
            behind (inr a) = a.1

    finalizing_by : Finalizing n r (exit n (and_then (clearable n r) f)).answer
    finalizing_by = record { walk_first = walk_first; refused = refused; only = only }

  pub finalizing : Finalizing n r (clear_list_exit n r).answer
  unfolding clear_list_exit clear_list_made
  finalizing = finalizing_by _ (λ y. low_fitted _ y [] _)

  pub blank_finalizing : Finalizing n r (blank_exit n r).answer
  unfolding blank_exit blank_made
  blank_finalizing = finalizing_by _ (λ y. low_ok _)

  pub preview_finalizing : Finalizing n r (preview_exit n r).answer
  unfolding preview_exit preview_made
  preview_finalizing = finalizing_by _ (λ y. low_and_then _ _ (low_room _ _) (λ u. low_ok _))

-- the entries that do not look
low_laid : (n : Lent) (r : List ℕ) → Low (laid n r)
unfolding laid layout
low_laid n r = low_layout_if (ok tt) (low_ok tt) (limits n) (n.gaps / pair_words) r

unasked : (entry : Lent → List ℕ → Out Made) → ((n : Lent) (r : List ℕ) → Low (entry n r)) → Unasked (λ n r. exit n (entry n r))
unasked entry l = record { never_16 = λ n r z e k. omega (arith, k, low_exit n (entry n r) (l n r) z e) }

pub layout_unasked : Unasked layout_exit
unfolding layout_exit layout_made
layout_unasked = unasked layout_made (λ n r. low_and_then _ _ (low_laid n r) (λ y. low_ok _))

pub to_text_unasked : Unasked to_text_exit
unfolding to_text_exit to_text_made
to_text_unasked = unasked to_text_made (λ n r. low_and_then _ _ (low_laid n r) (λ y. low_fitted _ y [] _))

pub to_tree_unasked : Unasked to_tree_exit
unfolding to_tree_exit to_tree_made
to_tree_unasked = unasked to_tree_made (λ n r. low_and_then _ _ (low_laid n r) (λ y. low_and_then _ _ (low_to_tree r y) (λ p. low_fitted _ y p.1 p.0)))

pub path_unasked : (a : ℕ) → Unasked (path_exit a)
unfolding path_exit path_made
path_unasked a = unasked (path_made a) (λ n r. low_and_then _ _ (low_laid n r) (λ y. low_and_then _ _ (low_room _ _) (λ u. low_ok _)))
