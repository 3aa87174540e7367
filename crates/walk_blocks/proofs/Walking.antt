-- What the walks of texts, sources and conversions answer, step by step. Assumes nothing.
use Rattle.std.specs.Prelude as std
use Rattle.std.proofs.Common.{◌≡◌, refl, sym, ap, ◌∙◌, Bool, true, false, List, [], ◌∷◌, ◌++◌, map, ℕ, ◌+◌, ◌^◌, ◌≤◌, ◌<◌, min, eqb, leb, ltb, length}
use Rattle.std.proofs.Common.{get_or, take, length-append, arith}
use lib.Seq.{length-take-le}
use borrow.Author.Tests.{eqb-true, eq-eqb, ne_eqb, lt-ltb, le-ltb, le-leb, lt-leb}
use Rattle.mdf4.specs.Bytes.{little, num, bytes, words}
use Rattle.mdf4.specs.Act.{ok, err, refusal, SI, UT, Act, State, pure, stop, choose, sized, once, by_link, ◌>>=◌, ◌>>◌, Kind}
use Rattle.mdf4.specs.Kinds.{shape, links_nr, no_records, read_block, read_of, make_link}
use Rattle.mdf4.specs.Walk.{enter, addr, link_of, follow, text_kind, enter_text, walk_text_like}
use Rattle.mdf4.proofs.Results.{check_ok}
use Rattle.blocks.specs.declared.kind.Kind.TheVariants as code
use Rattle.blocks.specs.declared.source_block.SourceBlock.{SourceBlock}
use Rattle.blocks.specs.declared.error.MdfError.{MdfError}
use Rattle.blocks.specs.declared.error.MdfError.TheVariants.{SumOverflow}
use Rattle.blocks.specs.Errors.{numbers}
use Rattle.blocks.specs.Parse.{parsed}
use Rattle.blocks.specs.SourceBlock.{source_block_of}
use Rattle.blocks.proofs.Told.{ok_only}
use Rattle.blocks.proofs.Parse.{parsed_ok}
use Rattle.walk_state.specs.declared.Block.{Block}
use Rattle.walk_state.specs.declared.Walker.{Walker}
use Rattle.walk_state.specs.Within.{no_layout}
use Rattle.walk_state.specs.Held.{Does, holds, mark, Walks, Lists}
use Rattle.walk_state.proofs.Steps.{yes, no, measured, alike, done, refused, then, dropped, once_halt, once_old, once_new}
use Rattle.walk_blocks.specs.Blocks.{Found}
use Rattle.walk_blocks.proofs.Entering.{enter_refused, found_enters}
use Rattle.walk_blocks.proofs.Reading.{mark_head, simple_si, plain_found}

-- a link that may be null, to a block that is entered once
module _ (k : Kind) (a : ℕ) (m : Act (Unit {0})) where
  pub link_null : {w : Walker} → a ≡ 0 → Walks w (std.Ok tt) w (choose (eqb a 0) (pure tt) (once k a tt m))
  link_null h = yes _ (eq-eqb a 0 h) (done refl)

  module _ (h : a ≡ 0 → ⊥) {w w1 : Walker} where
    pub link_halt : {e : MdfError} → Does (λ b. b) w (std.Err e) w1 (mark k a) → Walks w (std.Err e) w1 (choose (eqb a 0) (pure tt) (once k a tt m))
    link_halt p = no _ (ne_eqb a 0 h) (once_halt k a tt m p)

    pub link_old : {b : Bool} → b ≡ false → Does (λ b. b) w (std.Ok b) w1 (mark k a)
        → Walks w (std.Ok tt) w1 (choose (eqb a 0) (pure tt) (once k a tt m))
    link_old n p = no _ (ne_eqb a 0 h) (once_old k a tt m n p refl)

    pub link_new : {b : Bool} {w2 : Walker} {r : std.Result (Unit {0}) MdfError} → b ≡ true → Does (λ b. b) w (std.Ok b) w1 (mark k a)
        → Walks w1 r w2 m → Walks w r w2 (choose (eqb a 0) (pure tt) (once k a tt m))
    link_new n p q = no _ (ne_eqb a 0 h) (once_new k a tt m n p q)

-- the text at a, its kind told by its mark
enter_text_is : (a : ℕ) (r : List ℕ) (s : State) → (enter (text_kind (bytes r a 24)) a (no_records 0) >> pure tt) r s ≡ enter_text a r s
unfolding enter_text ◌>>◌ pure
enter_text_is a r s = refl

-- the text at a, read or refused
module _ (a : ℕ) {w : Walker} where
  text_entered : {w1 : Walker} {r : std.Result (Unit {0}) MdfError}
      → Walks w r w1 (enter (text_kind (bytes w.file.now a 24)) a (no_records 0) >> pure tt) → Walks w r w1 (enter_text a)
  text_entered p = alike (enter_text_is a w.file.now (holds w)) p

  pub text_refused : {e : MdfError} → read_block (text_kind (bytes w.file.now a 24)) w.file.now a ≡ err (numbers e) → Walks w (std.Err e) w (enter_text a)
  text_refused {e} p = text_entered (dropped {g = λ (u : Unit {0}). u} (std.Err e) (λ u. refl) (enter_refused _ a (no_records 0) p))

  pub text_listed : {w1 : Walker} {x : Block} {r : std.Result (Unit {0}) MdfError} (p : Found (text_kind (bytes w.file.now a 24)) (no_records 0) w.file.now a x [])
      → Lists (no_records 0) p.own [] x w r w1 → Walks w r w1 (enter_text a)
  text_listed {r} p q = text_entered (dropped r (λ u. refl) (found_enters p q))

-- a text whose offset is marked
abbrev text_body : ℕ → Act (Unit {0})
text_body a = sized λ n. choose (ltb (a + 24) (2 ^ 64)) (choose (leb (a + 24) n) (enter_text a) (pure tt)) (stop UT a (refusal 7 a a 24))

module _ (a : ℕ) {w : Walker} where
  pub text_past : 2 ^ 64 ≤ a + 24 → Walks w (std.Err (SumOverflow a a 24)) w (text_body a)
  text_past h = measured _ (no _ (le-ltb (a + 24) (2 ^ 64) h) (refused UT a))

  pub text_short : a + 24 < 2 ^ 64 → length w.file.now < a + 24 → Walks w (std.Ok tt) w (text_body a)
  text_short h i = measured _ (yes _ (lt-ltb (a + 24) (2 ^ 64) h) (no _ (lt-leb (a + 24) (length w.file.now) i) (done refl)))

  pub text_there : a + 24 < 2 ^ 64 → a + 24 ≤ length w.file.now → {w1 : Walker} {r : std.Result (Unit {0}) MdfError} → Walks w r w1 (enter_text a) → Walks w r w1 (text_body a)
  text_there h i p = measured _ (yes _ (lt-ltb (a + 24) (2 ^ 64) h) (yes _ (le-leb (a + 24) (length w.file.now) i) p))

-- the mark of a kind whose mark is tested
pub mark_tested : (k : Kind) (r : List ℕ) (a : ℕ) (o : List ℕ) → (shape k).tested ≡ true → read_block k r a ≡ ok o → num r a 4 ≡ (shape k).mark
unfolding read_block read_of
mark_tested k r a o t e =
    let e1 = (check_ok _ _ _ _ e).1 in
    let e2 = (check_ok _ _ _ _ e1).0 in
    let e3 : eqb (num (bytes r a 24) 0 4) (shape k).mark ≡ true = rw t at e2 in
    sym (mark_head r a 24 (omega arith)) ∙ eqb-true (num (bytes r a 24) 0 4) (shape k).mark e3

si_mark : (r : List ℕ) (a : ℕ) (o : List ℕ) → read_block SI r a ≡ ok o → 0x49532323 ≡ num r a 4
unfolding shape little
si_mark r a o e = sym (mark_tested SI r a o refl e)

-- a source shows three links
three : (xs : List ℕ) → length xs ≡ 3 → get_or xs 0 0 ∷ get_or xs 1 0 ∷ get_or xs 2 0 ∷ [] ≡ xs
three [] e = absurd (omega (arith, e))
three (x ∷ []) e = absurd (omega (arith, e))
three (x ∷ y ∷ []) e = absurd (omega (arith, e))
three (x ∷ y ∷ z ∷ []) e = refl
three (x ∷ y ∷ z ∷ u ∷ us) e = absurd (omega (arith, e))

si_targets : (o : List ℕ)
    → get_or ((shape SI).targets o) 0 0 ∷ get_or ((shape SI).targets o) 1 0 ∷ get_or ((shape SI).targets o) 2 0 ∷ [] ≡ (shape SI).targets o
unfolding shape
si_targets o =
    let ws : List ℕ = words o 24 (min 3 (links_nr o)) in
    three (take 3 (ws ++ 0 ∷ 0 ∷ 0 ∷ [])) (length-take-le 3 (ws ++ 0 ∷ 0 ∷ 0 ∷ []) (omega (arith, length-append ws (0 ∷ 0 ∷ 0 ∷ []))))

-- a source that is not read, and one that is
pub source_refused : (r : List ℕ) (a : ℕ) {e : _} → err e ≡ parsed source_block_of SI r a → read_block SI r a ≡ err e
unfolding parsed
source_refused r a q = ok_only (read_block SI r a) source_block_of _ (sym q)

pub source_found : (r : List ℕ) (a : ℕ) {b : SourceBlock} → ok b ≡ parsed source_block_of SI r a
    → {x : Block} → x ≡ record { offset = a; size = b.block_len; mark = 0x49532323; kind = code.SI; layout = no_layout }
    → Found SI (no_records 0) r a x (b.name_addr ∷ b.path_addr ∷ b.comment_addr ∷ [])
unfolding source_block_of
source_found r a {b} e z =
    let p = parsed_ok source_block_of SI r a (sym e) in
    plain_found simple_si r a p.0 p.1 b.block_len 0x49532323 code.SI refl (ap (λ (g : SourceBlock). g.block_len) (sym p.2)) (si_mark r a p.0 p.1)
    (b.name_addr ∷ b.path_addr ∷ b.comment_addr ∷ [])
    (ap (λ (g : SourceBlock). g.name_addr ∷ g.path_addr ∷ g.comment_addr ∷ []) (sym p.2) ∙ si_targets p.0) z

-- behind its row, its three texts are walked
pub source_then : (a x y z : ℕ) {o : List ℕ} {w w1 w2 : Walker} {r : std.Result (Unit {0}) MdfError}
    → Does (λ (u : Unit {0}). (o, map (make_link w.file.now) (x ∷ y ∷ z ∷ []))) w (std.Ok tt) w1 (enter SI a (no_records 0))
    → Walks w1 r w2 (by_link a 0 (walk_text_like x) >> by_link a 1 (walk_text_like y) >> by_link a 2 (walk_text_like z))
    → Walks w r w2 (enter SI a (no_records 0) >>= λ b. follow a b 0 walk_text_like >> follow a b 1 walk_text_like >> follow a b 2 walk_text_like)
source_then a x y z p q = then _ p (unfold addr link_of make_link in q)
