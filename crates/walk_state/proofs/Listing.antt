-- Listing a block: its targets and the room are tested, then its row and its links are pushed. Assumes nothing.
use Rattle.std.specs.Prelude as std
use Rattle.std.proofs.Common.{◌≡◌, refl, sym, ap, ◌∙◌, List, [], ◌∷◌, ◌++◌, map, ℕ, ◌+◌, ◌^◌, ◌≤◌, ◌<◌, cond, eqb, leb, ltb, length, get_or}
use Rattle.std.proofs.Common.{take, drop, append-nil, append_assoc, drop-cons, length-append, add-one, arith}
use mathlib.Core.List.{map-append}
use lib.ListN.{length-map, drop_of_length-le}
use lib.Seq.{take-suc, take_all}
use Rattle.mdf4.specs.Bytes.{bit}
use Rattle.mdf4.specs.Act.{refusal, Out, ok, err, and_then, check, Kind, Row, Link, State, raise, reason, elem}
use Rattle.mdf4.specs.Kinds.{RecordLayout, make_link}
use Rattle.mdf4.specs.Walk.{targets_ok, index_of, row_of, push, after_reading}
use Rattle.mdf4.specs.Answers.{row_words}
use Rattle.tables.specs.Rows.{held_links, link_of_words, info_words}
use Rattle.tables.proofs.Tables.{table_length}
use Rattle.blocks.specs.Kind.{kind_named}
use Rattle.blocks.specs.Errors.{numbers}
use Rattle.blocks.specs.declared.error.MdfError.{MdfError}
use Rattle.walk_state.specs.declared.Block as declared
use Rattle.walk_state.specs.declared.Walk.{Walk}
use Rattle.walk_state.specs.declared.Walker.{Walker}
use Rattle.walk_state.specs.Within.{held, indexed, with_links, room_for, row_made, Gives, Tells}
use Rattle.walk_state.specs.Held.{holds, Keeps, Stepped, listing, Lists}
use Rattle.walk_state.proofs.States.{links_held}
use Rattle.walk_state.proofs.Steps.{keeps_same, keeps_then}

-- the words of the row of a block with n links
pub words_made : (x : declared.Block) (n : ℕ) (w : Walk) (v b l : List ℕ) (i f : ℕ) → i ≡ indexed w (kind_named x.kind)
    → f ≡ cond (eqb n 0) 0 w.links
    → info_words (record {
      offset = x.offset;
      end_offset = x.offset + x.size;
      size = x.size;
      mark = x.mark;
      kind = x.kind;
      index = i;
      first_link = f;
      link_count = n;
      record_size = x.layout.record_size;
      invalidation_bytes = x.layout.invalidation_bytes;
      record_id_len = x.layout.record_id_len;
      from_block = w.from_block;
      from_link = w.from_link;
    }) ≡ row_words [] (row_made x n (held w v b l))
unfolding row_words row_made index_of indexed elem bit held held_links
words_made x n w v b l i f q r = rw (q, r, table_length 2 link_of_words w.links l)

-- a loop over the targets: what is left at turn i
pub targets_next : (ts : List ℕ) (i t : ℕ) → i < length ts → t ≡ get_or ts i 0
    → targets_ok (drop i ts) ≡ and_then (check (ltb (t + 4) (2 ^ 64)) (refusal 7 t t 4)) (λ u. targets_ok (drop (i + 1) ts))
unfolding targets_ok
targets_next ts i t h e = rw (e, add-one, drop-cons ts i 0 h)

pub targets_end : (ts : List ℕ) (i : ℕ) → length ts ≤ i → targets_ok (drop i ts) ≡ ok tt
unfolding targets_ok
targets_end ts i h = rw (drop_of_length-le ts h)

-- a row and its links at once
push_both : (k : Kind) (x : Row) (ls : List Link) (s : State) → with_links ls (push k x [] s) ≡ push k x ls s
unfolding with_links push
push_both k x ls s = rw append-nil

-- links pushed twice
with_both : (ls ms : List Link) (s : State) → with_links ms (with_links ls s) ≡ with_links (ls ++ ms) s
unfolding with_links
with_both ls ms s = rw append_assoc

with_none : (s : State) → s ≡ with_links [] s
unfolding with_links
with_none s = rw append-nil

-- the tests in a row
tests : {A : Type 0} (m1 m2 m3 m4 : Out (Unit {0})) (p : A)
    → and_then m1 (λ u. and_then m2 (λ u. and_then m3 (λ u. and_then m4 (λ u. ok p))))
    ≡ and_then m1 (λ u. and_then (and_then m2 (λ u. and_then m3 (λ u. m4))) (λ u. ok p))
unfolding and_then
tests (err e) m2 m3 m4 p = refl
tests (ok u) (err e) m3 m4 p = refl
tests (ok u) (ok u') (err e) m4 p = refl
tests (ok u) (ok u') (ok u'') (err e) p = refl
tests (ok u) (ok u') (ok u'') (ok u''') p = refl

pub reason_raise : {A : Type 0} (k : Kind) (a : ℕ) (s : State) (z : Out A) → reason (raise k a s z) ≡ z
unfolding reason raise
reason_raise k a s (ok x) = refl
reason_raise k a s (err e) = refl

module _ (h : RecordLayout) (o : List ℕ) (x : declared.Block) (ts : List ℕ) (t : Tells h o x ts) (file : List ℕ) (s : State) where
  kind : Kind
  kind = kind_named x.kind

  links : List Link
  links = map (make_link file) ts

  row_is : row_made x (length ts) s ≡ row_of kind x.offset h s o links
  unfolding row_made row_of kind links
  row_is =
      let n = ap (λ y. y.record_size) t.layout in
      let i = ap (λ y. y.invalidation_bytes) t.layout in
      let d = ap (λ y. y.record_id_len) t.layout in
      rw (t.size, t.mark, n, i, d, length-map ts (make_link file))

  listing_is : reason (listing kind x.offset h o ts file s)
      ≡ and_then (targets_ok ts) (λ u. and_then (room_for x.offset x.size (length ts) s) (λ u.
      ok ((o, links), push kind (row_made x (length ts) s) links s)))
  unfolding listing after_reading room_for and_then kind links
  listing_is =
      rw (reason_raise, t.content, sym t.targets, sym t.size, length-map ts (make_link file), sym row_is)
      (tests (targets_ok ts) (check (ltb (x.offset + x.size) (2 ^ 64)) (refusal 7 x.offset x.offset x.size))
      (check (ltb (length s.rows) s.lent.blocks) (refusal 11 x.offset s.lent.blocks 0))
      (check (leb (length s.links + length ts) s.lent.links) (refusal 12 x.offset s.lent.links 0))
      ((o, links), push kind (row_made x (length ts) s) links s))

  pub listing_target : {e : _} → targets_ok ts ≡ err e → err e ≡ reason (listing (kind_named x.kind) x.offset h o ts file s)
  unfolding and_then kind links
  listing_target p = rw (listing_is, p)

  pub listing_room : {e : _} → targets_ok ts ≡ ok tt → room_for x.offset x.size (length ts) s ≡ err e
      → err e ≡ reason (listing (kind_named x.kind) x.offset h o ts file s)
  unfolding and_then kind links
  listing_room p q = rw (listing_is, p, q)

  pub listing_on : (s1 s2 : State) → targets_ok ts ≡ ok tt → ok tt ≡ room_for x.offset x.size (length ts) s
      → s1 ≡ push (kind_named x.kind) (row_made x (length ts) s) [] s → s2 ≡ with_links (map (make_link file) ts) s1
      → ok ((o, map (make_link file) ts), s2) ≡ reason (listing (kind_named x.kind) x.offset h o ts file s)
  unfolding and_then kind links
  listing_on s1 s2 p q e f =
      let g : s2 ≡ push kind (row_made x (length ts) s) links s = f ∙ ap (with_links links) e ∙ push_both kind (row_made x (length ts) s) links s in
      rw (listing_is, p, sym q, g)

-- the targets that a callback tells: those before i were accepted
abbrev pub Accepted : (ℕ → ℕ → Type 0) → ℕ → ℕ → Type 0
Accepted post n i = (ts : List ℕ) → Gives post n ts → targets_ok ts ≡ targets_ok (drop i ts)

-- links to those before i were pushed
pub record Linking (post : ℕ → ℕ → Type 0) (n : ℕ) (w0 w : Walker) (i : ℕ) : Type 0 where
  pub says : (ts : List ℕ) → Gives post n ts → holds w ≡ with_links (map (make_link w0.file.now) (take i ts)) (holds w0)
  pub count : w.walk.links ≡ w0.walk.links + i
  pub keeps : Keeps w0 w

pub accepted_next : {post : ℕ → ℕ → Type 0} {n i : ℕ} (t : ℕ) → Accepted post n i → i < n → post i t → (ts : List ℕ) → Gives post n ts
    → targets_ok ts ≡ and_then (check (ltb (t + 4) (2 ^ 64)) (refusal 7 t t 4)) (λ u. targets_ok (drop (i + 1) ts))
accepted_next {i} t a h p ts g = a ts g ∙ targets_next ts i t (omega (arith, g.long)) (g.each i t h p)

pub linking_none : {post : ℕ → ℕ → Type 0} {n : ℕ} {w : Walker} → Linking post n w w 0
linking_none {w} = record { says = λ ts g. with_none (holds w); count = omega arith; keeps = keeps_same }

links_longer : (w w1 : Walker) (ls : List Link) → holds w1 ≡ with_links ls (holds w) → w1.walk.links ≡ w.walk.links + length ls
unfolding with_links
links_longer w w1 ls e =
    let a = links_held w.walk w.visited.now w.blocks.now w.links.now in
    let b = links_held w1.walk w1.visited.now w1.blocks.now w1.links.now in
    sym b ∙ ap (λ s. length s.links) e ∙ length-append (holds w).links ls ∙ ap (λ (n : ℕ). n + length ls) a

pub linking_more : {post : ℕ → ℕ → Type 0} {n : ℕ} {w0 w w1 : Walker} {i t : ℕ} (x : Link) → Linking post n w0 w i → i < n → post i t
    → x ≡ make_link w.file.now t → Stepped w w1 (with_links (x ∷ []) (holds w)) → Linking post n w0 w1 (i + 1)
linking_more {w0} {w} {w1} {i} {t} x p h q e s = record {
  says = λ ts g.
      let b : t ≡ get_or ts i 0 = g.each i t h q in
      let a : take (i + 1) ts ≡ take i ts ++ get_or ts i 0 ∷ [] = rw add-one (take-suc ts i 0 (omega (arith, g.long))) in
      let d : x ≡ make_link w0.file.now (get_or ts i 0) = rw (← b, ← p.keeps.file) e in
      s.says ∙ ap (with_links (x ∷ [])) (p.says ts g) ∙ with_both (map (make_link w0.file.now) (take i ts)) (x ∷ []) (holds w0)
      ∙ rw (a, map-append (make_link w0.file.now), d);
  count = omega (arith, links_longer w w1 (x ∷ []) s.says, p.count);
  keeps = keeps_then p.keeps s.keeps;
}

-- the row of a block leaves the number of links as it is
pub row_links : {w w1 : Walker} (k : Kind) (x : Row) → Stepped w w1 (push k x [] (holds w)) → w1.walk.links ≡ w.walk.links
unfolding push
row_links {w} {w1} k x s =
    let a = links_held w.walk w.visited.now w.blocks.now w.links.now in
    let b = links_held w1.walk w1.visited.now w1.blocks.now w1.links.now in
    sym b ∙ ap (λ y. length y.links) s.says ∙ rw append-nil a

-- a block is listed
module _ {post : ℕ → ℕ → Type 0} {n : ℕ} {h : RecordLayout} {o : List ℕ} {x : declared.Block} {ts : List ℕ} (g : Gives post n ts) (t : Tells h o x ts)
    {i : ℕ} (m : n ≤ i) (p : Accepted post n i) where
  all_accepted : targets_ok ts ≡ ok tt
  all_accepted = p ts g ∙ targets_end ts i (omega (arith, g.long))

  pub listed_off : {w : Walker} {e : MdfError} → err (numbers e) ≡ room_for x.offset x.size n (holds w) → Lists h o ts x w (std.Err e) w
  listed_off {w} q = record { says = listing_room h o x ts t w.file.now (holds w) all_accepted (rw (← g.long) (sym q)); keeps = keeps_same }

  pub listed_on : {w w1 w2 : Walker} {j : ℕ} → n ≤ j → ok tt ≡ room_for x.offset x.size n (holds w)
      → Stepped w w1 (push (kind_named x.kind) (row_made x n (holds w)) [] (holds w)) → Linking post n w1 w2 j → Lists h o ts x w (std.Ok tt) w2
  listed_on {w} {w1} {w2} {j} k q r s =
      let e : take j ts ≡ ts = take_all j ts (omega (arith, g.long)) in
      let f = s.says ts g in
      record {
        says = listing_on h o x ts t w.file.now (holds w) (holds w1) (holds w2) all_accepted (rw (← g.long) q) (rw (← g.long) r.says)
            (rw (e, r.keeps.file) at f);
        keeps = keeps_then r.keeps s.keeps;
      }

-- a target is refused
pub listed_target : {post : ℕ → ℕ → Type 0} {n i z : ℕ} {h : RecordLayout} {o : List ℕ} {x : declared.Block} {ts : List ℕ} → Gives post n ts
    → Tells h o x ts → Accepted post n i → i < n → post i z → {w : Walker} {e : MdfError} → err (numbers e) ≡ check (ltb (z + 4) (2 ^ 64)) (refusal 7 z z 4)
    → Lists h o ts x w (std.Err e) w
listed_target {z} {h} {o} {x} {ts} g t p k q {w} e = record {
  says = listing_target h o x ts t w.file.now (holds w) (accepted_next z p k q ts g ∙ rw (← e) (unfold and_then in refl));
  keeps = keeps_same;
}

pub accepted_more : {post : ℕ → ℕ → Type 0} {n i z : ℕ} → Accepted post n i → i < n → post i z
    → ok tt ≡ check (ltb (z + 4) (2 ^ 64)) (refusal 7 z z 4)
    → Accepted post n (i + 1)
accepted_more {z} p k q e ts g = accepted_next z p k q ts g ∙ rw (← e) (unfold and_then in refl)
