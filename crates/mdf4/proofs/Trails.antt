-- Every row but the first two was reached by a link of an earlier row. A step is given a condition on the state: the link being
-- followed leads to its address, or the block whose links it follows is listed. The walk keeps it by its shape.
use mathlib.Core.Path.{◌≡◌, refl, sym, ap, ◌∙◌}
use mathlib.Core.Bool.{Bool, true, false}
use mathlib.Core.List.{List, [], ◌∷◌, ◌++◌, append_assoc, append-nil}
use Prim.Native.Nat.{ℕ, zero, suc, ◌+◌, ◌≤◌, ◌<◌}
use native.Mathlib.Omega.{arith}
use lib.Dec.{eqb}
use lib.ListN.{length, get_or, drop, length-append, get_or-append}
use lib.Seq.{get_or-append_seam, get_or-drop, drop-drop}
use borrow.Author.Tests.{eqb-true, eqb-false}
use Rattle.mdf4.specs.Bytes.{bytes}
use Rattle.mdf4.specs.Act.{Refusal, ok, and_then, Kind, ID, Row, Link, State, Act, choose, pure, stop, ◌>>=◌, ◌>>◌, sized, elem, marked, visit, once, seen, chain, following, by_link, each_link}
use Rattle.mdf4.specs.Kinds.{RecordLayout, no_records, null}
use Rattle.mdf4.specs.Walk.{Block, row_of, push, enter, addr, link_of, text_kind, enter_text, walk_text_like, walk_source, walk_conversion, record_data_block, record_unknown_block, walk_data_block, walk_data_list, list_too_deep, walk_data_region, walk_channel, walk_channel_group, walk_data_group, walk_from_header, Handed}
use Rattle.mdf4.specs.Reads.{links_at}
use Rattle.mdf4.proofs.Results.{and_then_ok, ok_both, never}
use Rattle.mdf4.proofs.Good.{visit_is, entered_row}

unfoldable pub no_row : Row
no_row = record { off = 0; end = 0; size = 0; mark = 0; kind = ID; index = 0; first_link = 0; link_count = 0; record_size = 0; invalidation_bytes = 0; record_id_len = 0; from_block = 0; from_link = 0 }

abbrev pub row : List Row → ℕ → Row
row ws i = get_or ws i no_row

-- a row before the i-th, but not the first, has the offset p, and its n-th link has the target t
pub record Links (r : List ℕ) (ws : List Row) (i p n t : ℕ) : Type 0 where
  pub at : ℕ
  pub some : 1 ≤ at
  pub below : at < i
  pub offset : (row ws at).off ≡ p
  pub target : (get_or (links_at r (row ws at).kind p) n null).target ≡ t

pub record Sound (r : List ℕ) (s : State) : Type 0 where
  pub led : (i : ℕ) → 2 ≤ i → i < length s.rows → Links r s.rows i (row s.rows i).from_block (row s.rows i).from_link (row s.rows i).off

-- the link being followed leads to t; the block b stands at a
abbrev pub LedTo : ℕ → List ℕ → State → Type 0
LedTo t r s = Links r s.rows (length s.rows) s.from_block s.from_link t

pub record Has (a : ℕ) (b : Block) (r : List ℕ) (s : State) : Type 0 where
  pub link : (n : ℕ) → Links r s.rows (length s.rows) a n (addr b n)

-- what is said of an answer: nothing; or that the link being followed leads to the next address
abbrev pub Done : {A : Type 0} → A → List ℕ → State → Type 0
Done x r s = Unit {0}

abbrev pub Next : {B : Type 0} → ℕ × B → List ℕ → State → Type 0
Next p r s = (p.0 ≡ 0 → ⊥) → LedTo p.0 r s

pub record Trailed {A : Type 0} (Q : A → List ℕ → State → Type 0) (r : List ℕ) (s : State) (x : A) (s' : State) : Type 0 where
  pub more : List Row
  pub grew : s'.rows ≡ s.rows ++ more
  pub sound : Sound r s'
  pub post : Q x r s'

pub record Trail {A : Type 0} (P : List ℕ → State → Type 0) (Q : A → List ℕ → State → Type 0) (m : Act A) : Type 0 where
  pub went : (r : List ℕ) (s : State) (x : A) (s' : State) → m r s ≡ ok (x, s') → P r s → Sound r s → Trailed Q r s x s'

links_more : (r : List ℕ) (ws more : List Row) (i j p n t : ℕ) → i ≤ j → i ≤ length ws → Links r ws i p n t → Links r (ws ++ more) j p n t
links_more r ws more i j p n t h l k =
    let e : row (ws ++ more) k.at ≡ row ws k.at = get_or-append ws more no_row k.at (omega arith) in
    record { at = k.at; some = k.some; below = omega arith; offset = rw e k.offset; target = rw e k.target }

has_more : (a : ℕ) (b : Block) (r : List ℕ) (s s' : State) (more : List Row) → s'.rows ≡ s.rows ++ more → Has a b r s → Has a b r s'
has_more a b r s s' more g h = record {
  link = λ n. rw g (links_more r s.rows more (length s.rows) (length (s.rows ++ more)) a n (addr b n) (rw length-append (omega arith)) (omega arith) (h.link n));
}

-- one row more, reached by a link of an earlier one
sound_more : (r : List ℕ) (s s' : State) (w : Row) → s'.rows ≡ s.rows ++ w ∷ []
    → (2 ≤ length s.rows → Links r s.rows (length s.rows) w.from_block w.from_link w.off) → Sound r s → Sound r s'
sound_more r s s' w g k v = record { led = λ i h l. rw g (go i h (rw g at l) (eqb i (length s.rows)) refl) }
  where
    go : (i : ℕ) → 2 ≤ i → i < length (s.rows ++ w ∷ []) → (b : Bool) → eqb i (length s.rows) ≡ b
        → Links r (s.rows ++ w ∷ []) i (row (s.rows ++ w ∷ []) i).from_block (row (s.rows ++ w ∷ []) i).from_link (row (s.rows ++ w ∷ []) i).off
    go i h l true e =
        let z : i ≡ length s.rows = eqb-true i (length s.rows) e in
        let q : row (s.rows ++ w ∷ []) i ≡ w = rw z (get_or-append_seam s.rows w [] no_row) in
        rw q (links_more r s.rows (w ∷ []) (length s.rows) i _ _ _ (omega arith) (omega arith) (k (omega arith)))
    go i h l false e =
        let j : i < length s.rows = omega (arith, eqb-false i (length s.rows) e, length-append s.rows (w ∷ []), l) in
        let q : row (s.rows ++ w ∷ []) i ≡ row s.rows i = get_or-append s.rows (w ∷ []) no_row i j in
        rw q (links_more r s.rows (w ∷ []) i i _ _ _ (omega arith) (omega arith) (v.led i h j))

-- a block that is entered, in a state with the ID's row at least
module _ (k : Kind) (a : ℕ) (h : RecordLayout) (r : List ℕ) (s : State) (x : Block) (s' : State) (e : enter k a h r s ≡ ok (x, s')) (some : 1 ≤ length s.rows) where
  unfoldable pub new_row : Row
  new_row = row_of k a h s (entered_row k a h r s x s' e).0 x.1

  pub rows_are : s'.rows ≡ s.rows ++ new_row ∷ []
  unfolding new_row push
  rows_are = ap (λ (t : State). t.rows) (entered_row k a h r s x s' e).2

  pub now_has : Has a x r s'
  unfolding new_row row_of addr link_of
  now_has = record {
    link = λ n.
        let q : row (s.rows ++ new_row ∷ []) (length s.rows) ≡ new_row = get_or-append_seam s.rows new_row [] no_row in
        rw rows_are (record {
          at = length s.rows;
          some = some;
          below = rw length-append (omega arith);
          offset = rw q;
          target = rw (q, ← (entered_row k a h r s x s' e).1);
        });
  }

  pub now_sound : (2 ≤ length s.rows → LedTo a r s) → Sound r s → Sound r s'
  unfolding new_row row_of
  now_sound l v = sound_more r s s' new_row rows_are l v

-- the steps
module _ {A : Type 0} (P : List ℕ → State → Type 0) where
  pub trail_pure : (x : A) → Trail P Done (pure x)
  unfolding pure
  trail_pure x = record { went = λ r s y s' e p v. let q = (ok_both x y s s' e).1 in rw (← q) (record { more = []; grew = sym (append-nil s.rows); sound = v; post = tt }) }

  pub trail_stop : (Q : A → List ℕ → State → Type 0) (k : Kind) (a : ℕ) (z : Refusal) → Trail P Q (stop k a z)
  unfolding stop
  trail_stop Q k a z = record { went = λ r s y s' e p v. never (sym e) }

  pub trail_choose : (Q : A → List ℕ → State → Type 0) (b : Bool) (m n : Act A) → Trail P Q m → Trail P Q n → Trail P Q (choose b m n)
  unfolding choose
  trail_choose Q true m n g k = g
  trail_choose Q false m n g k = k

  pub trail_sized : (Q : A → List ℕ → State → Type 0) (f : ℕ → Act A) → ((n : ℕ) → Trail P Q (f n)) → Trail P Q (sized f)
  unfolding sized
  trail_sized Q f g = record { went = λ r s x s' e p v. (g (length r)).went r s x s' e p v }

  pub trail_seen : (Q : A → List ℕ → State → Type 0) (a : ℕ) (f : Bool → Act A) → ((b : Bool) → Trail P Q (f b)) → Trail P Q (seen a f)
  unfolding seen
  trail_seen Q a f g = record { went = λ r s x s' e p v. (g (elem a s.visited)).went r s x s' e p v }

pub trail_next : {B : Type 0} (t : ℕ) (y : B) → Trail (LedTo t) Next (pure (t, y))
unfolding pure
trail_next t y = record {
  went = λ r s x s' e p v.
      let q = ok_both (t, y) x s s' e in
      rw (← q.0, ← q.1) (record { more = []; grew = sym (append-nil s.rows); sound = v; post = λ z. p });
}

-- while the block b stands at a
module _ {A B : Type 0} (a : ℕ) (b : Block) (Q : B → List ℕ → State → Type 0) where
  pub trail_bind : (m : Act A) (f : A → Act B) → Trail (Has a b) Done m → ((x : A) → Trail (Has a b) Q (f x)) → Trail (Has a b) Q (m >>= f)
  unfolding ◌>>=◌
  trail_bind m f g k = record {
    went = λ r s x s' e p v.
        let q = and_then_ok (m r s) (λ p. f p.0 r p.1) (x, s') e in
        let w = g.went r s q.0.0 q.0.1 q.1 p v in
        let u = (k q.0.0).went r q.0.1 x s' q.2 (has_more a b r s q.0.1 w.more w.grew p) w.sound in
        record { more = w.more ++ u.more; grew = u.grew ∙ rw w.grew (append_assoc s.rows w.more u.more); sound = u.sound; post = u.post };
  }

  pub trail_then : (m : Act A) (n : Act B) → Trail (Has a b) Done m → Trail (Has a b) Q n → Trail (Has a b) Q (m >> n)
  unfolding ◌>>=◌ ◌>>◌
  trail_then m n g k = trail_bind m (λ x. n) g (λ x. k)

module _ {A : Type 0} (Q : A → List ℕ → State → Type 0) where
  pub trail_by_link : (a : ℕ) (b : Block) (n : ℕ) (m : Act A) → Trail (LedTo (addr b n)) Q m → Trail (Has a b) Q (by_link a n m)
  unfolding by_link following
  trail_by_link a b n m g = record {
    went = λ r s x s' e p v.
        let w = g.went r (following a n s) x s' e (p.link n) (record { led = v.led }) in
        record { more = w.more; grew = w.grew; sound = w.sound; post = w.post };
  }

  pub trail_enter : (k : Kind) (a : ℕ) (h : RecordLayout) (f : Block → Act A) → ((b : Block) → Trail (Has a b) Q (f b)) → Trail (LedTo a) Q (enter k a h >>= f)
  unfolding ◌>>=◌
  trail_enter k a h f g = record {
    went = λ r s x s' e p v.
        let q = and_then_ok (enter k a h r s) (λ p. f p.0 r p.1) (x, s') e in
        let some : 1 ≤ length s.rows = omega (arith, p.some, p.below) in
        let u = (g q.0.0).went r q.0.1 x s' q.2 (now_has k a h r s q.0.0 q.0.1 q.1 some) (now_sound k a h r s q.0.0 q.0.1 q.1 some (λ l. p) v) in
        let z = rows_are k a h r s q.0.0 q.0.1 q.1 some in
        record { more = new_row k a h r s q.0.0 q.0.1 q.1 some ∷ u.more; grew = u.grew ∙ rw z (append_assoc s.rows _ u.more); sound = u.sound; post = u.post };
  }

pub trail_enter_end : (k : Kind) (a : ℕ) (h : RecordLayout) → Trail (LedTo a) Done (enter k a h >> pure (tt {0}))
unfolding ◌>>◌ ◌>>=◌
trail_enter_end k a h = trail_enter Done k a h (λ b. pure (tt {0})) (λ b. trail_pure (Has a b) (tt {0}))

-- a block's offset is marked; a visited one answers at once
trail_once : {A : Type 0} (Q : A → List ℕ → State → Type 0) (k : Kind) (a : ℕ) (y : A) (m : Act A) → ((r : List ℕ) (s : State) → Q y r s) → Trail (LedTo a) Q m → Trail (LedTo a) Q (once k a y m)
unfolding once choose pure ◌>>◌ marked
trail_once {A = A} Q k a y m d g = record { went = λ r s x s' e p v. go r s x s' p v (elem a s.visited) e }
  where
    go : (r : List ℕ) (s : State) (x : A) (s' : State) → LedTo a r s → Sound r s → (b : Bool) → choose b (pure y) (visit k a >> m) r s ≡ ok (x, s') → Trailed Q r s x s'
    go r s x s' p v true e =
        let q = ok_both y x s s' e in
        rw (← q.0, ← q.1) (record { more = []; grew = sym (append-nil s.rows); sound = v; post = d r s })
    go r s x s' p v false e =
        let q = and_then_ok (visit k a r s) (λ p. m r p.1) (x, s') e in
        let z = visit_is k a r s q.0 q.1 in
        let w = g.went r (marked a s) x s' (rw z at q.2) p (record { led = v.led }) in
        record { more = w.more; grew = w.grew; sound = w.sound; post = w.post }

pub trail_once_done : {A : Type 0} (k : Kind) (a : ℕ) (y : A) (m : Act A) → Trail (LedTo a) Done m → Trail (LedTo a) Done (once k a y m)
trail_once_done k a y m g = trail_once Done k a y m (λ r s. tt) g

pub trail_once_next : {B : Type 0} (k : Kind) (a : ℕ) (y : B) (m : Act (ℕ × B)) → Trail (LedTo a) Next m → Trail (LedTo a) Next (once k a (0, y) m)
trail_once_next k a y m g = trail_once Next k a (0, y) m (λ r s z. absurd (z refl)) g

-- a chain: each step leads to the next
module _ {B : Type 0} (f : ℕ → B → Act (ℕ × B)) (g : (a : ℕ) (y : B) → Trail (LedTo a) Next (f a y)) where
  abbrev IfLedTo : ℕ → List ℕ → State → Type 0
  IfLedTo a r s = (a ≡ 0 → ⊥) → LedTo a r s

  step : (a : ℕ) (y : B) (k : ℕ × B → Act B) → ((p : ℕ × B) → Trail (IfLedTo p.0) Done (k p)) → Trail (IfLedTo a) Done (choose (eqb a 0) (pure y) (f a y >>= k))
  unfolding choose ◌>>=◌
  step a y k h = record { went = λ r s x s' e p v. go r s x s' p v (eqb a 0) refl e }
    where
      go : (r : List ℕ) (s : State) (x : B) (s' : State) → IfLedTo a r s → Sound r s → (t : Bool) → eqb a 0 ≡ t → choose t (pure y) (f a y >>= k) r s ≡ ok (x, s') → Trailed Done r s x s'
      go r s x s' p v true z e = (trail_pure (IfLedTo a) y).went r s x s' e p v
      go r s x s' p v false z e =
          let q = and_then_ok (f a y r s) (λ p. k p.0 r p.1) (x, s') e in
          let w = (g a y).went r s q.0.0 q.0.1 q.1 (p (eqb-false a 0 z)) v in
          let u = (h q.0.0).went r q.0.1 x s' q.2 w.post w.sound in
          record { more = w.more ++ u.more; grew = u.grew ∙ rw w.grew (append_assoc s.rows w.more u.more); sound = u.sound; post = tt }

  chained : (n a : ℕ) (y : B) → Trail (IfLedTo a) Done (chain n f a y)
  unfolding chain
  chained zero a y = step a y (λ p. pure p.1) (λ p. trail_pure (IfLedTo p.0) p.1)
  chained (suc n) a y = step a y (λ p. chain n f p.0 p.1) (λ p. chained n p.0 p.1)

  pub trail_chain : (n a : ℕ) (y : B) → Trail (LedTo a) Done (chain n f a y)
  trail_chain n a y = record { went = λ r s x s' e p v. (chained n a y).went r s x s' e (λ z. p) v }

-- the links of a block from the i-th on
module _ (a : ℕ) (b : Block) (f : Link → Act (Unit {0})) (g : (l : Link) → Trail (LedTo l.target) Done (f l)) where
  over : (ls : List Link) (i : ℕ) → drop i b.1 ≡ ls → Trail (Has a b) Done (each_link a i f ls)
  unfolding each_link addr link_of
  over [] i e = trail_pure (Has a b) tt
  over (l ∷ ls) i e =
      let p : suc i ≡ i + 1 = omega arith in
      let u : i ≡ i + 0 = omega arith in
      let z : get_or b.1 i null ≡ l = ap (λ (n : ℕ). get_or b.1 n null) u ∙ sym (get_or-drop i b.1 0 null) ∙ rw e in
      let y : addr b i ≡ l.target = ap (λ (k : Link). k.target) z in
      let d : drop (suc i) b.1 ≡ ls = ap (λ (n : ℕ). drop n b.1) p ∙ sym (drop-drop 1 i b.1) ∙ rw e in
      trail_then a b Done (by_link a i (f l)) (each_link a (suc i) f ls) (trail_by_link Done a b i (f l) (rw y (g l))) (over ls (suc i) d)

  pub trail_each_link : (i : ℕ) → Trail (Has a b) Done (each_link a i f (drop i b.1))
  trail_each_link i = over (drop i b.1) i refl

pub ruleset trails = (trail_pure, trail_next, trail_stop, trail_choose, trail_sized, trail_seen, trail_bind, trail_then, trail_by_link, trail_enter, trail_enter_end, trail_once_done, trail_once_next, trail_chain, trail_each_link)

trail_enter_text : (a : ℕ) → Trail (LedTo a) Done (enter_text a)
unfolding enter_text and_then
trail_enter_text a = record {
  went = λ r s x s' e p v. (trail_enter_end (text_kind (bytes r a 24)) a (no_records 0)).went r s x s' (unfold ◌>>◌ pure and_then in e) p v;
}

pub trail_walk_text_like : (a : ℕ) → Trail (LedTo a) Done (walk_text_like a)
unfolding walk_text_like
trail_walk_text_like a = search (trails, trail_enter_text) depth 12

pub trail_walk_source : (a : ℕ) → Trail (LedTo a) Done (walk_source a)
unfolding walk_source
trail_walk_source a = search (trails, trail_walk_text_like) depth 12

pub trail_walk_conversion : (P : List ℕ → State → Type 0) (cn a : ℕ) → Trail P Done (walk_conversion cn a)
unfolding walk_conversion
trail_walk_conversion P cn a = search trails depth 12

trail_record_data_block : (k : Kind) (a : ℕ) (h : RecordLayout) → Trail (LedTo a) Done (record_data_block k a h)
unfolding record_data_block
trail_record_data_block k a h = search trails depth 12

trail_record_unknown_block : (a : ℕ) → Trail (LedTo a) Done (record_unknown_block a)
unfolding record_unknown_block
trail_record_unknown_block a = search trails depth 12

trail_walk_data_block : (h : RecordLayout) (l : Link) → Trail (LedTo l.target) Done (walk_data_block h l)
unfolding walk_data_block
trail_walk_data_block h l = search (trails, trail_record_data_block, trail_record_unknown_block) depth 12

trail_walk_data_list : (f : Link → Act (Unit {0})) → ((l : Link) → Trail (LedTo l.target) Done (f l)) → (a : ℕ) → Trail (LedTo a) Done (walk_data_list f a)
unfolding walk_data_list addr
trail_walk_data_list f g a = search (trails, g) depth 12

trail_list_too_deep : (a : ℕ) → Trail (LedTo a) Done (list_too_deep a)
unfolding list_too_deep
trail_list_too_deep a = search trails depth 12

pub trail_walk_data_region : (d : ℕ) (h : RecordLayout) (l : Link) → Trail (LedTo l.target) Done (walk_data_region d h l)
unfolding walk_data_region
trail_walk_data_region zero h l = search (trails, trail_walk_data_block, trail_list_too_deep) depth 12
trail_walk_data_region (suc d) h l =
    let ih : (l : Link) → Trail (LedTo l.target) Done (walk_data_region d h l) = trail_walk_data_region d h in
    search (trails, trail_walk_data_block, trail_walk_data_list, ih) depth 12

pub trail_walk_channel : (a : ℕ) (u : Unit {0}) → Trail (LedTo a) Next (walk_channel a u)
unfolding walk_channel addr
trail_walk_channel a u = search (trails, trail_walk_text_like, trail_walk_source, trail_walk_conversion, trail_walk_data_region) depth 20

pub trail_walk_channel_group : (fuel rid a : ℕ) (got : Handed) → Trail (LedTo a) Next (walk_channel_group fuel rid a got)
unfolding walk_channel_group
trail_walk_channel_group fuel rid a got = search (trails, trail_walk_text_like, trail_walk_source, trail_walk_channel) depth 20

pub trail_walk_data_group : (fuel a : ℕ) (u : Unit {0}) → Trail (LedTo a) Next (walk_data_group fuel a u)
unfolding walk_data_group addr
trail_walk_data_group fuel a u = search (trails, trail_walk_text_like, trail_walk_channel_group, trail_walk_data_region) depth 20

pub trail_walk_from_header : (fuel : ℕ) (b : Block) → Trail (Has 64 b) Done (walk_from_header fuel b)
unfolding walk_from_header
trail_walk_from_header fuel b = search (trails, trail_walk_text_like, trail_walk_data_group) depth 20
