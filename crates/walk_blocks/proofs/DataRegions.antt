-- Data regions: a list that is not entered, and one that is entered, link by link. Assumes nothing.
use Rattle.std.specs.Prelude as std
use Rattle.std.proofs.Common.{◌≡◌, refl, sym, ◌∙◌, Bool, true, false, List, ℕ, zero, suc, ◌+◌, ◌*◌, ◌-◌, ◌≤◌, ◌<◌, length, get_or, drop}
use Rattle.std.proofs.Common.{add-one, drop-cons, arith}
use lib.ListN.{length-map, drop_of_length-le, get_or-map}
use Rattle.mdf4.specs.Bytes.{num, words}
use Rattle.mdf4.specs.Act.{refusal, Result, Stop, ok, err, and_then, DL, Link, State, Act, elem, seen, choose, pure, stop, ◌>>=◌, ◌>>◌, visit, once}
use Rattle.mdf4.specs.Act.{by_link, each_link}
use Rattle.mdf4.specs.Kinds.{shape, RecordLayout, no_records, make_link, null, leads_to}
use Rattle.mdf4.specs.Walk.{Block, link_of, enter, walk_data_block, walk_data_list, max_lists, list_too_deep, walk_data_region}
use Rattle.blocks.specs.declared.error.MdfError.{MdfError}
use Rattle.walk_state.specs.declared.Walker.{Walker}
use Rattle.walk_state.specs.Held.{holds, Keeps, Does, Walks}
use Rattle.walk_state.proofs.Steps.{keeps_then, then, next, halt, halt_next, done, alike}
use Rattle.walk_blocks.specs.Regions.{open_list, enter_list, data_list, links_at, listed}
use Rattle.walk_blocks.proofs.DataLists.{words_length, words_at}

-- a region by the mark found
region_list_is : (h : RecordLayout) (l : Link) (r : List ℕ) (s : State) (d : ℕ) → leads_to (shape DL).mark l ≡ true
    → walk_data_region d h l r s ≡ data_list d h l.target r s
unfolding walk_data_region data_list choose
region_list_is h l r s zero e = rw e
region_list_is h l r s (suc d) e = rw e

region_block_is : (h : RecordLayout) (l : Link) (r : List ℕ) (s : State) (d : ℕ) → leads_to (shape DL).mark l ≡ false
    → walk_data_region d h l r s ≡ walk_data_block h l r s
unfolding walk_data_region choose
region_block_is h l r s zero e = rw e
region_block_is h l r s (suc d) e = rw e

module _ (d : ℕ) (h : RecordLayout) (l : Link) {w w1 : Walker} {r : std.Result (Unit {0}) MdfError} where
  pub region_list : leads_to (shape DL).mark l ≡ true → Walks w r w1 (data_list d h l.target) → Walks w r w1 (walk_data_region d h l)
  region_list e p = alike (sym (region_list_is h l w.file.now (holds w) d e)) p

  pub region_block : leads_to (shape DL).mark l ≡ false → Walks w r w1 (walk_data_block h l) → Walks w r w1 (walk_data_region d h l)
  region_block e p = alike (sym (region_block_is h l w.file.now (holds w) d e)) p

-- the links ls of the list at a: the data links first, then next
abbrev pub in_order : ℕ → (Link → Act (Unit {0})) → List Link → Act (Unit {0})
in_order a f ls = each_link a 1 f (drop 1 ls) >> by_link a 0 (f (get_or ls 0 null))

-- of a list that was visited there is nothing to walk
opened : ℕ → (Link → Act (Unit {0})) → std.Option (List Link) → Act (Unit {0})
opened a f (std.Some ls) = in_order a f ls
opened a f std.None = pure tt

-- a list is entered, and its links are walked in order
list_is : (d : ℕ) (h : RecordLayout) (a : ℕ) (r : List ℕ) (s : State)
    → (enter_list d a >>= opened a (walk_data_region (d - 1) h)) r s ≡ data_list d h a r s
unfolding enter_list data_list list_too_deep walk_data_list open_list link_of seen once choose pure stop ◌>>=◌ ◌>>◌ and_then opened
list_is zero h a r s = by_place (elem a s.visited)
  where
    by_place : (b : Bool) → and_then (choose b (pure std.None) (stop DL a (refusal 15 a max_lists 0)) r s) (λ p. opened a (walk_data_region 0 h) p.0 r p.1)
        ≡ choose b (pure (tt {0})) (stop DL a (refusal 15 a max_lists 0)) r s
    by_place true = refl
    by_place false = refl
list_is (suc d) h a r s = rw (add-sub d) (by_place (elem a s.visited))
  where
    f : Link → Act (Unit {0})
    f = walk_data_region d h

    add-sub : (n : ℕ) → suc n - 1 ≡ n
    add-sub n = omega arith

    by_block : (z : Result Stop (Block × State))
        → and_then (and_then {B = std.Option (List Link) × State} (and_then {B = List Link × State} z (λ p. ok (p.0.1, p.1))) (λ p. ok (std.Some p.0, p.1)))
        (λ p. opened a f p.0 r p.1) ≡ and_then z (λ p. in_order a f p.0.1 r p.1)
    by_block (ok p) = refl
    by_block (err e) = refl

    by_visit : (z : Result Stop (Unit {0} × State))
        → and_then (and_then z (λ p. (open_list a >>= λ ls. pure (std.Some ls)) r p.1)) (λ p. opened a f p.0 r p.1)
        ≡ and_then z (λ q. and_then (enter DL a (no_records 0) r q.1) (λ p. in_order a f p.0.1 r p.1))
    by_visit (ok q) = by_block (enter DL a (no_records 0) r q.1)
    by_visit (err e) = refl

    by_place : (b : Bool) → and_then (choose b (pure std.None) (visit DL a >> (open_list a >>= λ ls. pure (std.Some ls))) r s) (λ p. opened a f p.0 r p.1)
        ≡ choose b (pure (tt {0})) (visit DL a >> (enter DL a (no_records 0) >>= λ b. in_order a f b.1)) r s
    by_place true = refl
    by_place false = by_visit (visit DL a r s)

-- a list, told by what `enter_list` ensures
module _ (d : ℕ) (h : RecordLayout) (a : ℕ) {w w1 : Walker} where
  pub list_off : {e : MdfError} → Does (listed w.file.now a) w (std.Err e) w1 (enter_list d a) → Walks w (std.Err e) w1 (data_list d h a)
  list_off p = alike (list_is d h a w.file.now (holds w)) (halt _ p)

  pub list_seen : Does (listed w.file.now a) w (std.Ok std.None) w1 (enter_list d a) → Walks w (std.Ok tt) w1 (data_list d h a)
  list_seen p = alike (list_is d h a w.file.now (holds w)) (then _ p (unfold opened in done refl))

  pub list_on : {n : ℕ} {w2 : Walker} {r : std.Result (Unit {0}) MdfError} → Does (listed w.file.now a) w (std.Ok (std.Some n)) w1 (enter_list d a)
      → Walks w1 r w2 (in_order a (walk_data_region (d - 1) h) (links_at w1.file.now a n)) → Walks w r w2 (data_list d h a)
  list_on p q = alike (list_is d h a w.file.now (holds w)) (then _ p (unfold opened in rw (← p.keeps.file) q))

links_length : (r : List ℕ) (a n : ℕ) → length (links_at r a n) ≡ n
links_length r a n = length-map (words r (a + 24) n) (make_link r) ∙ words_length r (a + 24) n

link_is : (r : List ℕ) (a n i t : ℕ) → i < n → t ≡ num r (a + 24 + 8 * i) 8 → get_or (links_at r a n) i null ≡ make_link r t
unfolding make_link
link_is r a n i t h p =
    let e : get_or (words r (a + 24) n) i 0 ≡ t = words_at r (a + 24) n i h ∙ sym p in
    get_or-map (make_link r) (words r (a + 24) n) i 0 ∙ rw e

-- a loop over the links of the list at a, which has n, from w0 to w: what is left behind place i is what is left of the whole
pub record Turning (d : ℕ) (h : RecordLayout) (a n : ℕ) (w0 w : Walker) (i : ℕ) : Type 0 where
  pub keeps : Keeps w0 w
  pub rest : {r : std.Result (Unit {0}) MdfError} {w2 : Walker} → Walks w r w2 (each_link a i (walk_data_region d h) (drop i (links_at w0.file.now a n)))
      → Walks w0 r w2 (each_link a 1 (walk_data_region d h) (drop 1 (links_at w0.file.now a n)))

each_next : (a : ℕ) (f : Link → Act (Unit {0})) (ls : List Link) (i : ℕ) → i < length ls
    → each_link a i f (drop i ls) ≡ by_link a i (f (get_or ls i null)) >> each_link a (i + 1) f (drop (i + 1) ls)
unfolding each_link
each_next a f ls i h = rw (add-one, drop-cons ls i null h)

each_end : (a : ℕ) (f : Link → Act (Unit {0})) (ls : List Link) (i : ℕ) → length ls ≤ i → each_link a i f (drop i ls) ≡ pure tt
unfolding each_link
each_end a f ls i h = rw (drop_of_length-le ls h)

-- the link x that was made of the target at place i
link_there : (a n : ℕ) {w0 w : Walker} → Keeps w0 w → (i t : ℕ) → i < n → t ≡ num w.file.now (a + 24 + 8 * i) 8 → (x : Link)
    → x ≡ make_link w.file.now t → get_or (links_at w0.file.now a n) i null ≡ x
link_there a n {w = w} k i t lt p x q = rw (← k.file) (link_is w.file.now a n i t lt p ∙ sym q)

module _ {d : ℕ} {h : RecordLayout} {a n : ℕ} {w0 w : Walker} {i : ℕ} (m : Turning d h a n w0 w i) where
  module _ (lt : i < n) (t : ℕ) (p : t ≡ num w.file.now (a + 24 + 8 * i) 8) (x : Link) (q : x ≡ make_link w.file.now t) where
    split : each_link a i (walk_data_region d h) (drop i (links_at w0.file.now a n))
        ≡ by_link a i (walk_data_region d h x) >> each_link a (i + 1) (walk_data_region d h) (drop (i + 1) (links_at w0.file.now a n))
    split = rw (← link_there a n m.keeps i t lt p x q) (each_next a (walk_data_region d h) (links_at w0.file.now a n) i (rw links_length lt))

    pub turn_on : {w1 : Walker} → Walks w (std.Ok tt) w1 (by_link a i (walk_data_region d h x)) → Turning d h a n w0 w1 (i + 1)
    turn_on s = record { keeps = keeps_then m.keeps s.keeps; rest = λ r. m.rest (rw split (next s r)) }

    pub turn_off : {w1 : Walker} {e : MdfError} → Walks w (std.Err e) w1 (by_link a i (walk_data_region d h x))
        → Walks w0 (std.Err e) w1 (in_order a (walk_data_region d h) (links_at w0.file.now a n))
    turn_off s = halt_next _ (m.rest (rw split (halt_next _ s)))

  -- then the first one
  pub turn_last : n ≤ i → 1 ≤ n → (t : ℕ) → t ≡ num w.file.now (a + 24 + 8 * 0) 8 → (x : Link) → x ≡ make_link w.file.now t
      → {r : std.Result (Unit {0}) MdfError} {w1 : Walker} → Walks w r w1 (by_link a 0 (walk_data_region d h x))
      → Walks w0 r w1 (in_order a (walk_data_region d h) (links_at w0.file.now a n))
  turn_last l o t p x q s =
      next {w1 = w} (m.rest (rw (each_end a (walk_data_region d h) (links_at w0.file.now a n) i (rw links_length l)) (done refl)))
      (rw (link_there a n m.keeps 0 t o p x q) s)
