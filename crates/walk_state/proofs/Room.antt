-- What is asked before a block is listed, on the counts and the lengths of the tables; and the mark at a target. Assumes nothing.
use Rattle.std.proofs.Common.{◌≡◌, refl, sym, ◌∙◌, Bool, true, false, List, ℕ, ◌+◌, ◌/◌, ◌^◌, ◌≤◌, ◌<◌, length, leb, ltb}
use borrow.Author.Tests.{lt-ltb, le-ltb, le-leb, lt-leb, eq-eqb, ne_eqb, ltb-true, leb-true}
use Rattle.mdf4.specs.Bytes.{num}
use Rattle.mdf4.specs.Act.{refusal, ok, err, and_then, check}
use Rattle.mdf4.specs.Answers.{block_row_words}
use Rattle.mdf4.specs.Kinds.{make_link}
use Rattle.mdf4.proofs.Results.{check_ok}
use Rattle.walk_state.specs.declared.Walk.{Walk}
use Rattle.tables.specs.Rows.{held_rows, held_links, row_of_words, link_of_words}
use Rattle.walk_state.specs.Within.{held, room_for}
use Rattle.tables.proofs.Tables.{table_length}

check_true : {E : Type 0} (t : Bool) (e : E) → check t e ≡ ok tt → t ≡ true
unfolding check
check_true true e p = refl
check_true false e p = cc

module _ (a n c : ℕ) (w : Walk) (v b l : List ℕ) where
  room_held : room_for a n c (held w v b l)
      ≡ and_then (check (ltb (a + n) (2 ^ 64)) (refusal 7 a a n)) (λ u.
      and_then (check (ltb w.blocks (length b / block_row_words)) (refusal 11 a (length b / block_row_words) 0)) (λ u.
      check (leb (w.links + c) (length l / 2)) (refusal 12 a (length l / 2) 0)))
  unfolding room_for held held_rows held_links
  room_held = rw (table_length block_row_words row_of_words w.blocks b, table_length 2 link_of_words w.links l)

  pub room_end : 2 ^ 64 ≤ a + n → err (refusal 7 a a n) ≡ room_for a n c (held w v b l)
  unfolding and_then check
  room_end h = rw (room_held, le-ltb (a + n) (2 ^ 64) h)

  pub room_row : a + n < 2 ^ 64 → length b / block_row_words ≤ w.blocks → err (refusal 11 a (length b / block_row_words) 0) ≡ room_for a n c (held w v b l)
  unfolding and_then check
  room_row h i = rw (room_held, lt-ltb (a + n) (2 ^ 64) h, le-ltb w.blocks (length b / block_row_words) i)

  pub room_links : a + n < 2 ^ 64 → w.blocks < length b / block_row_words → length l / 2 < w.links + c
      → err (refusal 12 a (length l / 2) 0) ≡ room_for a n c (held w v b l)
  unfolding and_then check
  room_links h i j = rw (room_held, lt-ltb (a + n) (2 ^ 64) h, lt-ltb w.blocks (length b / block_row_words) i, lt-leb (w.links + c) (length l / 2) j)

  pub room_there : a + n < 2 ^ 64 → w.blocks < length b / block_row_words → w.links + c ≤ length l / 2 → ok tt ≡ room_for a n c (held w v b l)
  unfolding and_then check
  room_there h i j = rw (room_held, lt-ltb (a + n) (2 ^ 64) h, lt-ltb w.blocks (length b / block_row_words) i, le-leb (w.links + c) (length l / 2) j)

  -- what the tests have shown
  pub record Room : Type 0 where
    pub end : a + n < 2 ^ 64
    pub row : w.blocks < length b / block_row_words
    pub links : w.links + c ≤ length l / 2

  pub room_shown : ok tt ≡ room_for a n c (held w v b l) → Room
  room_shown e =
      let p = check_ok (ltb (a + n) (2 ^ 64)) (refusal 7 a a n) _ tt (sym room_held ∙ sym e) in
      let q = check_ok (ltb w.blocks (length b / block_row_words)) (refusal 11 a (length b / block_row_words) 0) _ tt p.1 in
      record {
        end = ltb-true (a + n) (2 ^ 64) p.0;
        row = ltb-true w.blocks (length b / block_row_words) q.0;
        links = leb-true (w.links + c) (length l / 2) (check_true (leb (w.links + c) (length l / 2)) (refusal 12 a (length l / 2) 0) q.1);
      }

module _ (r : List ℕ) (t : ℕ) where
  pub found_null : t ≡ 0 → record { target = t; found = 0 } ≡ make_link r t
  unfolding make_link
  found_null h = rw (eq-eqb t 0 h)

  pub found_past : (t ≡ 0 → ⊥) → length r < t + 4 → record { target = t; found = 0 } ≡ make_link r t
  unfolding make_link
  found_past h i = rw (ne_eqb t 0 h, lt-leb (t + 4) (length r) i)

  pub found_there : (t ≡ 0 → ⊥) → t + 4 ≤ length r → (m : ℕ) → m ≡ num r t 4 → record { target = t; found = 1 + m } ≡ make_link r t
  unfolding make_link
  found_there h i m e = rw (ne_eqb t 0 h, le-leb (t + 4) (length r) i, e)
