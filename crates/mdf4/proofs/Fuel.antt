-- The bound on a chain's steps cuts no chain short: one step more changes nothing, since a step that answers a next address
-- has marked an offset, and the visited table is full after as many. So the walk is the same with any larger bound.
use mathlib.Core.Path.{◌≡◌, refl, sym, ap, ◌∙◌}
use mathlib.Core.Bool.{Bool, true, false}
use mathlib.Core.List.{List}
use Prim.Native.Nat.{ℕ, zero, suc, ◌+◌, ◌≤◌, ◌<◌}
use native.Mathlib.Omega.{arith}
use lib.Dec.{eqb}
use lib.ListN.{length}
use borrow.Author.Tests.{eqb-false, ne_eqb, le-ltb, lt-ltb}
use Rattle.mdf4.specs.Act.{refusal, Result, Stop, ok, err, and_then, check, Kind, CN, CG, DG, HD, State, Limits, Act, choose, pure, ◌>>=◌, ◌>>◌, elem, marked, visit, once, chain, following, by_link}
use Rattle.mdf4.specs.Bytes.{num}
use Rattle.mdf4.specs.Kinds.{no_records}
use Rattle.mdf4.specs.Walk.{Handed, addr, walk_channel, walk_channel_group, walk_data_group, Block, walk_from_header, walk_header, walk_identification, start, walk}
use Rattle.mdf4.proofs.Results.{and_then_ok, ok_both}
use Rattle.mdf4.proofs.Walk.{shapes, good_walk_text_like, good_walk_source, good_walk_conversion, good_walk_data_region, good_walk_channel, good_walk_channel_group, good_walk_data_group, good_walk_identification}
use Rattle.mdf4.proofs.Good.{Good, Any, Ready, visit_is, visit_room, marked_length, lent_is, good_enter}

-- a step that answers another address than 0 has marked an offset
pub record Moves {B : Type 0} (f : ℕ → B → Act (ℕ × B)) : Type 0 where
  pub good : (a : ℕ) (b : B) → Good Any (f a b)
  pub moved : (a : ℕ) (b : B) (r : List ℕ) (s : State) (n : ℕ) (b' : B) (s' : State)
      → f a b r s ≡ ok ((n, b'), s') → (n ≡ 0 → ⊥) → length s.visited < length s'.visited

once_moved : {B : Type 0} (k : Kind) (a : ℕ) (x : B) (m : Act (ℕ × B)) → Good (Ready a) m → (r : List ℕ) (s : State) (n : ℕ) (b' : B) (s' : State)
    → once k a (0, x) m r s ≡ ok ((n, b'), s') → (n ≡ 0 → ⊥) → length s.visited < length s'.visited
unfolding once choose pure ◌>>◌
once_moved k a x m g r s n b' s' e d = go (elem a s.visited) refl
  where
    go : (t : Bool) → elem a s.visited ≡ t → length s.visited < length s'.visited
    go true q =
        let z = (ok_both (0, x) (n, b') s s' (rw q at e)).0 in
        absurd (d (sym (ap (λ p. p.0) z)))
    go false q =
        let p = and_then_ok (visit k a r s) (λ p. m r p.1) ((n, b'), s') (rw q at e) in
        let w = g.went r p.0.1 (n, b') s' p.2 in
        omega (arith, w.longer, marked_length a s, ap (λ (t : State). length t.visited) (visit_is k a r s p.0 p.1))

-- two continuations that agree where the step arrives
bind_ext : {A B : Type 0} (m : Result Stop (A × State)) (f g : A × State → Result Stop (B × State)) → ((p : A × State) → m ≡ ok p → f p ≡ g p) → and_then m f ≡ and_then m g
unfolding and_then
bind_ext (ok p) f g h = h p refl
bind_ext (err e) f g h = refl

choose_ext : {A : Type 0} (t : Bool) (m k k' : Act A) (r : List ℕ) (s : State) → k r s ≡ k' r s → choose t m k r s ≡ choose t m k' r s
unfolding choose
choose_ext true m k k' r s e = refl
choose_ext false m k k' r s e = e

module _ {B : Type 0} (f : ℕ → B → Act (ℕ × B)) (r : List ℕ) where
  chain_null : (n a : ℕ) (b : B) (s : State) → eqb a 0 ≡ true → chain n f a b r s ≡ ok (b, s)
  unfolding chain choose pure
  chain_null zero a b s e = rw e
  chain_null (suc n) a b s e = rw e

  pub enough : Moves f → (n a : ℕ) (b : B) (s : State) → length s.visited ≤ s.lent.visited → s.lent.visited ≤ n + length s.visited
      → chain n f a b r s ≡ chain (suc n) f a b r s
  unfolding chain ◌>>=◌ pure
  enough mv zero a b s h g = choose_ext (eqb a 0) _ _ _ r s (bind_ext (f a b r s) _ _ next)
    where
      next : (p : (ℕ × B) × State) → f a b r s ≡ ok p → pure p.0.1 r p.1 ≡ chain zero f p.0.0 p.0.1 r p.1
      next p e = go (eqb p.0.0 0) refl
        where
          go : (t : Bool) → eqb p.0.0 0 ≡ t → pure p.0.1 r p.1 ≡ chain zero f p.0.0 p.0.1 r p.1
          go true q = sym (chain_null zero p.0.0 p.0.1 p.1 q)
          go false q =
              let w = (mv.good a b).went r s p.0 p.1 e in
              absurd (omega (arith, w.fits h, mv.moved a b r s p.0.0 p.0.1 p.1 e (eqb-false p.0.0 0 q)))
  enough mv (suc n) a b s h g =
      choose_ext (eqb a 0) _ _ _ r s (bind_ext (f a b r s) _ _ (λ p e. next p e (eqb p.0.0 0) refl (enough mv n p.0.0 p.0.1 p.1)))
    where
      next : (p : (ℕ × B) × State) → f a b r s ≡ ok p → (t : Bool) → eqb p.0.0 0 ≡ t
          → (length p.1.visited ≤ p.1.lent.visited → p.1.lent.visited ≤ n + length p.1.visited
          → chain n f p.0.0 p.0.1 r p.1 ≡ chain (suc n) f p.0.0 p.0.1 r p.1)
          → chain n f p.0.0 p.0.1 r p.1 ≡ chain (suc n) f p.0.0 p.0.1 r p.1
      next p e true q ih = chain_null n p.0.0 p.0.1 p.1 q ∙ sym (chain_null (suc n) p.0.0 p.0.1 p.1 q)
      next p e false q ih =
          let w = (mv.good a b).went r s p.0 p.1 e in
          let m = mv.moved a b r s p.0.0 p.0.1 p.1 e (eqb-false p.0.0 0 q) in
          ih (rw w.kept (w.fits h)) (rw w.kept (omega arith))

-- The law for a loop of the code: one turn of it, with any fuel that is enough. The loop's invariant is that the chain from where
-- it stands answers what the whole chain answers.
module _ {B : Type 0} (f : ℕ → B → Act (ℕ × B)) (mv : Moves f) (r : List ℕ) (fuel a : ℕ) (b : B) (s : State)
    (room : length s.visited ≤ s.lent.visited) (big : s.lent.visited ≤ fuel) (go_on : a ≡ 0 → ⊥) where
  pub turn_ok : (n : ℕ) (b' : B) (s' : State) → f a b r s ≡ ok ((n, b'), s') → chain fuel f a b r s ≡ chain fuel f n b' r s'
  unfolding chain choose ◌>>=◌ and_then
  turn_ok n b' s' e = enough f r mv fuel a b s room (omega arith) ∙ rw (ne_eqb a 0 go_on, e)

  -- and what the next turn asks for again
  pub turn_room : (n : ℕ) (b' : B) (s' : State) → f a b r s ≡ ok ((n, b'), s') → (length s'.visited ≤ s'.lent.visited) × (s'.lent.visited ≤ fuel)
  turn_room n b' s' e = let w = (mv.good a b).went r s (n, b') s' e in (rw w.kept (w.fits room), rw w.kept big)

  pub turn_no : (x : Stop) → f a b r s ≡ err x → chain fuel f a b r s ≡ err x
  unfolding chain choose ◌>>=◌ and_then
  turn_no x e = enough f r mv fuel a b s room (omega arith) ∙ rw (ne_eqb a 0 go_on, e)

pub turn_end : {B : Type 0} (f : ℕ → B → Act (ℕ × B)) (r : List ℕ) (n : ℕ) (b : B) (s : State) → chain n f 0 b r s ≡ ok (b, s)
turn_end f r n b s = chain_null f r n 0 b s refl

-- and for a block: what `once` answers
module _ {A : Type 0} (k : Kind) (a : ℕ) (x : A) (m : Act A) (r : List ℕ) (s : State) where
  pub once_seen : elem a s.visited ≡ true → once k a x m r s ≡ ok (x, s)
  unfolding once choose pure
  once_seen e = rw e

  pub once_full : elem a s.visited ≡ false → length s.visited ≡ s.lent.visited → once k a x m r s ≡ err (record { why = refusal 10 a s.lent.visited 0; state = s; kind = k; at = a })
  unfolding once choose visit ◌>>◌ and_then check
  once_full e f = rw (e, le-ltb (length s.visited) s.lent.visited (omega arith))

  pub once_new : elem a s.visited ≡ false → length s.visited < s.lent.visited → once k a x m r s ≡ m r (marked a s)
  unfolding once choose visit ◌>>◌ and_then check
  once_new e f = rw (e, lt-ltb (length s.visited) s.lent.visited f)

pub walk_channel_moves : Moves walk_channel
unfolding walk_channel
walk_channel_moves = record {
  good = good_walk_channel;
  moved = λ a b. once_moved CN a tt _ (search (shapes, good_walk_text_like, good_walk_source, good_walk_conversion, good_walk_data_region) depth 20);
}

pub walk_channel_group_moves : (fuel rid : ℕ) → Moves (walk_channel_group fuel rid)
unfolding walk_channel_group
walk_channel_group_moves fuel rid = record {
  good = good_walk_channel_group fuel rid;
  moved = λ a b. once_moved CG a _ _ (search (shapes, good_walk_text_like, good_walk_source, good_walk_channel) depth 20);
}

pub walk_data_group_moves : (fuel : ℕ) → Moves (walk_data_group fuel)
unfolding walk_data_group
walk_data_group_moves fuel = record {
  good = good_walk_data_group fuel;
  moved = λ a b. once_moved DG a tt _ (search (shapes, good_walk_text_like, good_walk_channel_group, good_walk_data_region) depth 20);
}

-- Steps that are equal wherever the visited table is no longer than the bound and not overfull: the walk's with any two fuels
-- that reach the bound.
pub record Equal {A : Type 0} (bound : ℕ) (m m' : Act A) : Type 0 where
  pub eq : (r : List ℕ) (s : State) → length s.visited ≤ s.lent.visited → s.lent.visited ≤ bound → m r s ≡ m' r s

equal_same : {A : Type 0} (bound : ℕ) (m : Act A) → Equal bound m m
equal_same bound m = record { eq = λ r s l b. refl }

equal_choose : {A : Type 0} (bound : ℕ) (t : Bool) (m k k' : Act A) → Equal bound k k' → Equal bound (choose t m k) (choose t m k')
equal_choose bound t m k k' e = record { eq = λ r s l b. choose_ext t m k k' r s (e.eq r s l b) }

equal_bind : {A B : Type 0} (bound : ℕ) (P : State → Type 0) (m m' : Act A) (f f' : A → Act B)
    → Good P m → Equal bound m m' → ((a : A) → Equal bound (f a) (f' a)) → Equal bound (m >>= f) (m' >>= f')
unfolding ◌>>=◌
equal_bind bound P m m' f f' g e h = record {
  eq = λ r s l b. rw (← e.eq r s l b) (bind_ext (m r s) _ _ (λ p q.
      let w = g.went r s p.0 p.1 q in
      (h p.0).eq r p.1 (rw w.kept (w.fits l)) (rw w.kept b)));
}

equal_then : {A B : Type 0} (bound : ℕ) (P : State → Type 0) (m m' : Act A) (n n' : Act B) → Good P m → Equal bound m m' → Equal bound n n' → Equal bound (m >> n) (m' >> n')
unfolding ◌>>=◌ ◌>>◌
equal_then bound P m m' n n' g e h = equal_bind bound P m m' (λ a. n) (λ a. n') g e (λ a. h)

equal_by_link : {A : Type 0} (bound a n : ℕ) (m m' : Act A) → Equal bound m m' → Equal bound (by_link a n m) (by_link a n m')
unfolding by_link following
equal_by_link bound a n m m' e = record { eq = λ r s l b. e.eq r (following a n s) l b }

equal_once : {A : Type 0} (bound : ℕ) (k : Kind) (a : ℕ) (x : A) (m m' : Act A) → Equal bound m m' → Equal bound (once k a x m) (once k a x m')
unfolding once ◌>>◌
equal_once bound k a x m m' e = record {
  eq = λ r s l b. choose_ext (elem a s.visited) (pure x) (visit k a >> m) (visit k a >> m') r s (bind_ext (visit k a r s) _ _ (λ p q.
      let v = visit_is k a r s p q in
      let z = ap (λ (t : State). length t.visited) v in
      let u = ap (λ (t : Limits). t.visited) (lent_is a s p.1 v) in
      e.eq r p.1 (omega (arith, visit_room k a r s p q, marked_length a s)) (omega arith)));
}

module _ {B : Type 0} (bound : ℕ) (f f' : ℕ → B → Act (ℕ × B)) (mv : Moves f) (e : (a : ℕ) (b : B) → Equal bound (f a b) (f' a b)) where
  more : (d n a : ℕ) (b : B) (r : List ℕ) (s : State) → length s.visited ≤ s.lent.visited → s.lent.visited ≤ n → chain n f a b r s ≡ chain (d + n) f a b r s
  more zero n a b r s l h = let z : 0 + n ≡ n = omega arith in rw z
  more (suc d) n a b r s l h =
      let z : suc d + n ≡ suc (d + n) = omega arith in
      more d n a b r s l h ∙ enough f r mv (d + n) a b s l (omega arith) ∙ rw z

  steps : (n a : ℕ) (b : B) → Equal bound (chain n f a b) (chain n f' a b)
  unfolding chain
  steps zero a b = equal_choose bound (eqb a 0) _ _ _ (equal_bind bound Any _ _ _ _ (mv.good a b) (e a b) (λ p. equal_same bound _))
  steps (suc n) a b = equal_choose bound (eqb a 0) _ _ _ (equal_bind bound Any _ _ _ _ (mv.good a b) (e a b) (λ p. steps n p.0 p.1))

  equal_chain : (n n' a : ℕ) (b : B) → bound ≤ n → bound ≤ n' → Equal bound (chain n f a b) (chain n' f' a b)
  equal_chain n n' a b h h' = record {
    eq = λ r s l g.
        let z : n' + n ≡ n + n' = omega arith in
        more n' n a b r s l (omega arith) ∙ rw z (sym (more n n' a b r s l (omega arith))) ∙ (steps n' a b).eq r s l g;
  }

-- the walk's own chains
module _ (bound fuel fuel' : ℕ) (h : bound ≤ fuel) (h' : bound ≤ fuel') where
  equal_channel_group : (rid a : ℕ) (got : Handed) → Equal bound (walk_channel_group fuel rid a got) (walk_channel_group fuel' rid a got)
  unfolding walk_channel_group
  equal_channel_group rid a got = equal_once bound CG a _ _ _ (equal_bind bound (Ready a) _ _ _ _ (good_enter CG a (no_records rid)) (equal_same bound _) (λ b.
      equal_then bound Any _ _ _ _ (search (shapes, good_walk_text_like, good_walk_source, good_walk_channel) depth 20)
      (equal_then bound Any _ _ _ _ (search (shapes, good_walk_text_like, good_walk_source) depth 20) (equal_same bound _)
      (equal_by_link bound a 1 _ _ (equal_chain bound walk_channel walk_channel walk_channel_moves (λ a b. equal_same bound _) fuel fuel' (addr b 1) tt h h')))
      (equal_same bound _)))

  equal_data_group : (a : ℕ) (u : Unit {0}) → Equal bound (walk_data_group fuel a u) (walk_data_group fuel' a u)
  unfolding walk_data_group
  equal_data_group a u = equal_once bound DG a _ _ _ (equal_bind bound (Ready a) _ _ _ _ (good_enter DG a (no_records 0)) (equal_same bound _) (λ b.
      equal_bind bound Any _ _ _ _ (search (shapes, good_walk_text_like, good_walk_channel_group) depth 20)
      (equal_then bound Any _ _ _ _ (search (shapes, good_walk_text_like)) (equal_same bound _)
      (equal_by_link bound a 1 _ _ (equal_chain bound _ _ (walk_channel_group_moves fuel (num b.0 56 1)) (equal_channel_group (num b.0 56 1)) fuel fuel' (addr b 1) _ h h')))
      (λ got. equal_same bound _)))

  equal_walk_from_header : (b : Block) → Equal bound (walk_from_header fuel b) (walk_from_header fuel' b)
  unfolding walk_from_header
  equal_walk_from_header b = equal_then bound Any _ _ _ _ (search (shapes, good_walk_text_like)) (equal_same bound _)
      (equal_by_link bound 64 0 _ _ (equal_chain bound _ _ (walk_data_group_moves fuel) equal_data_group fuel fuel' (addr b 0) tt h h'))

  equal_header : Equal bound (walk_header fuel) (walk_header fuel')
  unfolding walk_header
  equal_header = equal_once bound HD 64 _ _ _ (equal_bind bound (Ready 64) _ _ _ _ (good_enter HD 64 (no_records 0)) (equal_same bound _) equal_walk_from_header)

-- the walk with any fuel that reaches its limit
pub walk_fuel : (lim : Limits) (r : List ℕ) (fuel : ℕ) → lim.visited ≤ fuel → walk r (start lim) ≡ (walk_identification >> walk_header fuel) r (start lim)
unfolding walk start
walk_fuel lim r fuel h =
    (equal_then lim.visited Any _ _ _ _ good_walk_identification (equal_same lim.visited _) (equal_header lim.visited lim.visited fuel (omega arith) h)
    ).eq r (start lim) (omega arith) (omega arith)
