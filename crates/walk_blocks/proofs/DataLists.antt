-- Data lists: the link targets as they stand in the recording, and a list that is listed. Assumes nothing.
use Rattle.std.specs.Prelude as std
use Rattle.std.proofs.Common.{◌≡◌, refl, sym, ap, ◌∙◌, true, false, List, ℕ, zero, suc, ◌+◌, ◌*◌, ◌≤◌, ◌<◌, length, get_or, arith}
use native.Mathlib.Nat.{le_of_suc-le-suc, not-suc-le-zero}
use borrow.Author.Tests.{leb-true}
use Rattle.mdf4.specs.Bytes.{bytes, num, words}
use Rattle.mdf4.specs.Act.{Refusal, ok, err, DL, elem, once, choose, pure, reason, visit, ◌>>=◌, ◌>>◌}
use Rattle.mdf4.specs.Kinds.{shape, is, links_nr, data_at, header_ok, rest, read_len, read_block, no_records}
use Rattle.mdf4.proofs.Fields.{num_bytes}
use Rattle.blocks.specs.declared.data_list_block.DataListBlock.{DataListBlock}
use Rattle.blocks.specs.declared.kind.Kind.TheVariants as code
use Rattle.blocks.specs.Parse.{parsed}
use Rattle.blocks.specs.DataListBlock.{data_list_block_of}
use Rattle.blocks.proofs.Told.{ok_only}
use Rattle.blocks.proofs.Parse.{parsed_ok}
use Rattle.blocks.proofs.Extents.{own_of}
use Rattle.blocks.specs.declared.error.MdfError.{MdfError}
use Rattle.blocks.specs.declared.error.MdfError.TheVariants.{TooDeep}
use Rattle.walk_state.specs.declared.Block.{Block}
use Rattle.walk_state.specs.declared.Walker.{Walker}
use Rattle.walk_state.specs.Within.{no_layout, Gives}
use Rattle.walk_state.specs.Held.{holds, Does}
use Rattle.walk_state.proofs.Steps.{keeps_same, yes, no, looked, alike, done, refused}
use Rattle.walk_blocks.specs.Blocks.{Found}
use Rattle.walk_blocks.specs.Regions.{Inside, listed, open_list, enter_list}
use Rattle.walk_blocks.proofs.Reading.{simple_dl, plain_found}

pub words_length : (r : List ℕ) (a n : ℕ) → length (words r a n) ≡ n
unfolding words
words_length r a zero = refl
words_length r a (suc n) = ap suc (words_length r (a + 8) n)

pub words_at : (r : List ℕ) (a n i : ℕ) → i < n → get_or (words r a n) i 0 ≡ num r (a + 8 * i) 8
unfolding words
words_at r a zero i h = absurd (not-suc-le-zero h)
words_at r a (suc n) zero h = ap (λ (m : ℕ). num r m 8) (omega arith)
words_at r a (suc n) (suc i) h = words_at r (a + 8) n i (le_of_suc-le-suc h) ∙ ap (λ (m : ℕ). num r m 8) (omega arith)

-- of a part of the recording
words_part : (r : List ℕ) (a m i n : ℕ) → i + 8 * n ≤ m → words (bytes r a m) i n ≡ words r (a + i) n
unfolding words
words_part r a m i zero h = refl
words_part r a m i (suc n) h =
    let e : a + (i + 8) ≡ a + i + 8 = omega arith in
    let p = words_part r a m (i + 8) n (omega arith) in
    rw (num_bytes r a m i 8 (omega arith), p, e)

-- a list that was read, with the mark m at its offset
pub record ListTold (r : List ℕ) (a : ℕ) (b : DataListBlock) (m : ℕ) : Type 0 where
  pub inside : Inside r a b.links_nr
  pub found : {x : Block} → x ≡ record { offset = a; size = b.block_len; mark = m; kind = code.DL; layout = no_layout }
      → Found DL (no_records 0) r a x (words r (a + 24) b.links_nr)

pub list_told : (r : List ℕ) (a : ℕ) {b : DataListBlock} (m : ℕ) → ok b ≡ parsed data_list_block_of DL r a → m ≡ num r a 4 → ListTold r a b m
unfolding read_len shape data_at data_list_block_of links_nr header_ok is
list_told r a {b} m e g =
    let p = parsed_ok data_list_block_of DL r a (sym e) in
    let o : List ℕ = p.0 in
    let w = own_of DL r a p.1 in
    let s : o ≡ bytes r a (length o) = w.is in
    let n : b.links_nr ≡ num o 16 8 = ap (λ y. y.links_nr) (sym p.2) in
    let u : num o 16 8 ≡ num (bytes r a (length o)) 16 8 = ap (λ y. num y 16 8) s in
    let z : length o ≡ 24 + 8 * num (bytes r a 24) 16 8 + 8 + rest DL (bytes r a (24 + 8 * num (bytes r a 24) 16 8 + 8)) = w.len in
    let f : 1 ≤ num (bytes r a 24) 16 8 = leb-true 1 (num (bytes r a 24) 16 8) w.sound in
    let j : 24 + 8 * b.links_nr ≤ length o = omega (arith, n, u, w.links, z) in
    let t : words r (a + 24) b.links_nr ≡ words o 24 (num o 16 8) =
    sym (words_part r a (length o) 24 b.links_nr j) ∙ ap (λ y. words y 24 b.links_nr) (sym s) ∙ ap (λ (y : ℕ). words o 24 y) n in
    record {
      inside = record { some = omega (arith, n, u, w.links, f); inside = omega (arith, j, w.inside) };
      found = λ i. plain_found simple_dl r a o p.1 b.block_len m code.DL refl (ap (λ y. y.block_len) (sym p.2)) g (words r (a + 24) b.links_nr) t i;
    }

pub list_refused : (r : List ℕ) (a : ℕ) {e : Refusal} → err e ≡ parsed data_list_block_of DL r a → read_block DL r a ≡ err e
unfolding parsed
list_refused r a q = ok_only (read_block DL r a) data_list_block_of _ (sym q)

-- the targets of such a list
pub words_given : (r : List ℕ) (a n : ℕ) {post : ℕ → ℕ → Type 0} → ((i x : ℕ) → post i x → x ≡ num r (a + 24 + 8 * i) 8)
    → Gives post n (words r (a + 24) n)
words_given r a n f = record { long = sym (words_length r (a + 24) n); each = λ i x l p. f i x p ∙ sym (words_at r (a + 24) n i l) }

-- a list at a depth: visited, one list too many, or opened
module _ (a : ℕ) {w : Walker} (h : elem a (holds w).visited ≡ false) where
  pub enter_deep : (d : ℕ) → d ≡ 0 → Does {A = std.Option ℕ} (listed w.file.now a) w (std.Err (TooDeep a 512)) w (enter_list d a)
  enter_deep d e = rw e (unfold enter_list in looked _ _ false h (no _ refl (refused DL a)))

  pub enter_new : (d : ℕ) → (d ≡ 0 → ⊥) → {r : std.Result (std.Option ℕ) MdfError} {w1 : Walker}
      → Does (listed w.file.now a) w r w1 (visit DL a >> (open_list a >>= λ ls. pure (std.Some ls))) → Does (listed w.file.now a) w r w1 (enter_list d a)
  enter_new zero n p = absurd (n refl)
  enter_new (suc d) n p = alike {m = visit DL a >> (open_list a >>= λ ls. pure (std.Some ls))} (unfold enter_list once choose in rw h) p

pub enter_seen : (a : ℕ) {w : Walker} → elem a (holds w).visited ≡ true → (d : ℕ) → Does (listed w.file.now a) w (std.Ok std.None) w (enter_list d a)
enter_seen a h zero = unfold enter_list in looked _ _ true h (yes _ refl (done refl))
enter_seen a {w} h (suc d) = record { says = unfold enter_list once choose pure reason in rw h; keeps = keeps_same }
