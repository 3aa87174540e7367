-- Answers, the state of a walk, and its steps. A step reads the recording and the state, in which the limits stand, and answers
-- a value and the next state, or a refusal.
use Rattle.std.specs.Prelude.{Bool, true, false, cond, ◌||◌, List, [], ◌∷◌, ◌++◌, ℕ, zero, suc, ltb, eqb, length}

-- document 01's refusal: number, place, a, b
pub record Refusal : Type 0 where
  pub number : ℕ
  pub place : ℕ
  pub a : ℕ
  pub b : ℕ

abbrev pub refusal : ℕ → ℕ → ℕ → ℕ → Refusal
refusal n p a b = record { number = n; place = p; a = a; b = b }

pub data Result (E A : Type 0) : Type 0 where
  ok : A → Result E A
  err : E → Result E A

abbrev pub Out : Type 0 → Type 0
Out A = Result Refusal A

unfoldable pub and_then : {E A B : Type 0} → Result E A → (A → Result E B) → Result E B
and_then (ok a) f = f a
and_then (err e) f = err e

-- e unless the test holds
unfoldable pub check : {E : Type 0} → Bool → E → Result E (Unit {0})
check true e = ok tt
check false e = err e

-- document 01's kinds; UT is an unknown block met by a text link, UD one met by a data link, DT stands for DT, DV, RD and RV
pub data Kind : Type 0 where
  ID HD DG CG CN SI TX MD DT SD DL UT UD : Kind

-- a row of the block table, but for the tree mark; the words that a kind lacks are 0. The last two (document 02, order 3) are the offset
-- of the block whose link was followed when the row was listed, and that link's position among those shown
pub record Row : Type 0 where
  pub off : ℕ
  pub end : ℕ
  pub size : ℕ
  pub mark : ℕ
  pub kind : Kind
  pub index : ℕ
  pub first_link : ℕ
  pub link_count : ℕ
  pub record_size : ℕ
  pub invalidation_bytes : ℕ
  pub record_id_len : ℕ
  pub from_block : ℕ
  pub from_link : ℕ

-- a row of the link table: target, then 0 or 1 + the mark found there
pub record Link : Type 0 where
  pub target : ℕ
  pub found : ℕ

-- whole rows lent of each table
pub record Limits : Type 0 where
  pub visited : ℕ
  pub blocks : ℕ
  pub links : ℕ

-- the Rust's `Walker`: offsets visited, rows and links in the order of the walk, the counters behind the indexes, the link that is
-- being followed
pub record State : Type 0 where
  pub visited : List ℕ
  pub rows : List Row
  pub links : List Link
  pub dg_counter : ℕ
  pub cg_counter : ℕ
  pub cn_counter : ℕ
  pub from_block : ℕ
  pub from_link : ℕ
  pub lent : Limits

-- a refusal of the walk: what it answers, the state so far, and the block being entered
pub record Stop : Type 0 where
  pub why : Refusal
  pub state : State
  pub kind : Kind
  pub at : ℕ

abbrev pub stopped : Refusal → State → Kind → ℕ → Stop
stopped e s k a = record { why = e; state = s; kind = k; at = a }

abbrev pub Act : Type 0 → Type 0
Act A = List ℕ → State → Result Stop (A × State)

unfoldable pub pure : {A : Type 0} → A → Act A
pure a r s = ok (a, s)

unfoldable pub stop : {A : Type 0} → Kind → ℕ → Refusal → Act A
stop k a e r s = err (stopped e s k a)

-- an answer with its stopping block, and the refusal alone
unfoldable pub raise : {A : Type 0} → Kind → ℕ → State → Out A → Result Stop A
raise k a s (ok x) = ok x
raise k a s (err e) = err (stopped e s k a)

unfoldable pub reason : {A : Type 0} → Result Stop A → Out A
reason (ok x) = ok x
reason (err z) = err z.why

unfoldable pub ◌>>=◌ : {A B : Type 0} → Act A → (A → Act B) → Act B
◌>>=◌ m f r s = and_then (m r s) (λ p. f p.0 r p.1)

unfoldable pub ◌>>◌ : {A B : Type 0} → Act A → Act B → Act B
◌>>◌ m n r s = and_then (m r s) (λ p. n r p.1)

infixl 10 ◌>>=◌ ◌>>◌
-- the first step where the test holds, else the second
unfoldable pub choose : {A : Type 0} → Bool → Act A → Act A → Act A
choose b m n = cond b m n

-- a step that takes the length of the recording
unfoldable pub sized : {A : Type 0} → (ℕ → Act A) → Act A
sized f r s = f (length r) r s

unfoldable pub elem : ℕ → List ℕ → Bool
elem x [] = false
elem x (y ∷ ys) = eqb x y || elem x ys

-- a step that takes whether an offset was visited
unfoldable pub seen : {A : Type 0} → ℕ → (Bool → Act A) → Act A
seen a f r s = f (elem a s.visited) r s

unfoldable pub marked : ℕ → State → State
marked a s = record {
  visited = s.visited ++ a ∷ [];
  rows = s.rows;
  links = s.links;
  dg_counter = s.dg_counter;
  cg_counter = s.cg_counter;
  cn_counter = s.cn_counter;
  from_block = s.from_block;
  from_link = s.from_link;
  lent = s.lent;
}

-- marks an offset as visited: refusal 10 where the table is full
unfoldable pub visit : Kind → ℕ → Act (Unit {0})
visit k a r s =
    and_then (check (ltb (length s.visited) s.lent.visited) (stopped (refusal 10 a s.lent.visited 0) s k a)) (λ u. ok (tt, marked a s))

-- a visited offset answers x at once; another is marked and entered
unfoldable pub once : {A : Type 0} → Kind → ℕ → A → Act A → Act A
once k a x m r s = choose (elem a s.visited) (pure x) (visit k a >> m) r s

-- follows a chain of addresses to its null, n + 1 steps at most; each step answers the next address and what it hands on
unfoldable pub chain : {B : Type 0} → ℕ → (ℕ → B → Act (ℕ × B)) → ℕ → B → Act B
chain zero f a b = choose (eqb a 0) (pure b) (f a b >>= λ p. pure p.1)
chain (suc n) f a b = choose (eqb a 0) (pure b) (f a b >>= λ p. chain n f p.0 p.1)

-- the state in which the n-th link of the block at a is being followed
unfoldable pub following : ℕ → ℕ → State → State
following a n s = record {
  visited = s.visited;
  rows = s.rows;
  links = s.links;
  dg_counter = s.dg_counter;
  cg_counter = s.cg_counter;
  cn_counter = s.cn_counter;
  from_block = a;
  from_link = n;
  lent = s.lent;
}

-- the step m follows the n-th link of the block at a
unfoldable pub by_link : {A : Type 0} → ℕ → ℕ → Act A → Act A
by_link a n m r s = m r (following a n s)

-- follows each of the links of the block at a, from the i-th on
unfoldable pub each_link : ℕ → ℕ → (Link → Act (Unit {0})) → List Link → Act (Unit {0})
each_link a i f [] = pure tt
each_link a i f (l ∷ ls) = by_link a i (f l) >> each_link a (suc i) f ls
