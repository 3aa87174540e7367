-- What a walk's step does, put together from what its parts do. Assumes nothing.
use Rattle.std.specs.Prelude as std
use Rattle.std.specs.Result.{IsErrAnd}
use Rattle.std.proofs.Common.{◌≡◌, refl, ◌∙◌, Bool, true, false, ℕ, List, length, arith}
use Rattle.mdf4.specs.Act.{Refusal, Result, Stop, ok, err, and_then, Kind, State, Act, pure, stop, reason, choose, sized, once, seen, visit}
use Rattle.mdf4.specs.Act.{elem, ◌>>=◌, ◌>>◌, following, by_link}
use Rattle.blocks.specs.Errors.{numbers}
use Rattle.blocks.specs.declared.error.MdfError.{MdfError}
use Rattle.walk_state.specs.declared.Walker.{Walker}
use Rattle.walk_state.specs.Held.{holds, outcome, Keeps, Does, Walks, Stepped, mark}
use Rattle.walk_state.specs.Within.{held}

pub keeps_same : {w : Walker} → Keeps w w
keeps_same =
    record { file = refl; visited = refl; blocks = refl; links = refl; visited_long = refl; blocks_long = refl; links_long = refl; grew = omega arith }

pub keeps_then : {w w1 w2 : Walker} → Keeps w w1 → Keeps w1 w2 → Keeps w w2
keeps_then p q = record {
  file = q.file ∙ p.file;
  visited = q.visited ∙ p.visited;
  blocks = q.blocks ∙ p.blocks;
  links = q.links ∙ p.links;
  visited_long = q.visited_long ∙ p.visited_long;
  blocks_long = q.blocks_long ∙ p.blocks_long;
  links_long = q.links_long ∙ p.links_long;
  grew = omega (arith, p.grew, q.grew);
}

reason_ok : {A : Type 0} {x : A} (z : Result Stop A) → ok x ≡ reason z → z ≡ ok x
unfolding reason
reason_ok (ok y) e = cc
reason_ok (err z) e = cc

reason_err : {A B : Type 0} {e : Refusal} (z : Result Stop A) (f : A → Result Stop B) → err e ≡ reason z → err e ≡ reason (and_then z f)
unfolding reason and_then
reason_err (ok y) f p = cc
reason_err (err z) f p = cc

-- an error is handed up
pub handed : {A B : Type 0} {f : A → B} {w w1 : Walker} {m : Act B} {e : MdfError} (r : std.Result A MdfError) → IsErrAnd r (λ x. x ≡ e)
    → Does f w (std.Err e) w1 m → Does f w r w1 m
handed (std.Ok x) p q = absurd p
handed (std.Err x) p q = rw p q

module _ {A B C D : Type 0} {f : A → B} {g : C → D} {w w1 : Walker} where
  -- a step that goes on, and the next one, which takes its value
  pub then : {w2 : Walker} {a : A} {r : std.Result C MdfError} {m : Act B} (n : B → Act D) → Does f w (std.Ok a) w1 m → Does g w1 r w2 (n (f a))
      → Does g w r w2 (m >>= n)
  then {m} n p q = record {
    says = unfold ◌>>=◌ and_then in rw (reason_ok (m w.file.now (holds w)) p.says, ← p.keeps.file) q.says;
    keeps = keeps_then p.keeps q.keeps;
  }

  -- a step that refuses: so does it with the next one
  pub halt : {e : MdfError} {m : Act B} (n : B → Act D) → Does f w (std.Err e) w1 m → Does g w (std.Err e) w1 (m >>= n)
  halt {m} n p = record { says = unfold ◌>>=◌ in reason_err (m w.file.now (holds w)) _ p.says; keeps = p.keeps }

-- the same of a step that answers no value
module _ {C D : Type 0} {g : C → D} {w w1 : Walker} where
  pub next : {w2 : Walker} {u : Unit {0}} {r : std.Result C MdfError} {m : Act (Unit {0})} {n : Act D} → Walks w (std.Ok u) w1 m → Does g w1 r w2 n
      → Does g w r w2 (m >> n)
  next {m} p q = record {
    says = unfold ◌>>◌ and_then in rw (reason_ok (m w.file.now (holds w)) p.says, ← p.keeps.file) q.says;
    keeps = keeps_then p.keeps q.keeps;
  }

  pub halt_next : {e : MdfError} {m : Act (Unit {0})} (n : Act D) → Walks w (std.Err e) w1 m → Does g w (std.Err e) w1 (m >> n)
  halt_next {m} n p = record { says = unfold ◌>>◌ in reason_err (m w.file.now (holds w)) _ p.says; keeps = p.keeps }

-- a step that asks the counts and the offsets visited alone, and changes nothing: of any recording and any other tables it does what m does
pub same_state : {w : Walker} {r : std.Result (Unit {0}) MdfError} {m : Act (Unit {0})}
    → ((file b l : List ℕ) → outcome (λ u. u) r (held w.walk w.visited.now b l) ≡ reason (m file (held w.walk w.visited.now b l))) → Walks w r w m
same_state {w} p = record { says = p w.file.now w.blocks.now w.links.now; keeps = keeps_same }

-- a step by a link that is followed
pub led : {A B : Type 0} {f : A → B} {w w1 w2 : Walker} {r : std.Result A MdfError} (a n : ℕ) {m : Act B} → Stepped w w1 (following a n (holds w))
    → Does f w1 r w2 m → Does f w r w2 (by_link a n m)
led a n s p = record { says = unfold by_link in rw (← s.says, ← s.keeps.file) p.says; keeps = keeps_then s.keeps p.keeps }

module _ {A B : Type 0} {f : A → B} {w w1 : Walker} {r : std.Result A MdfError} where
  -- the definition's tests
  pub yes : {b : Bool} {m : Act B} (n : Act B) → b ≡ true → Does f w r w1 m → Does f w r w1 (choose b m n)
  yes n e p = unfold choose in rw e p

  pub no : {b : Bool} {n : Act B} (m : Act B) → b ≡ false → Does f w r w1 n → Does f w r w1 (choose b m n)
  no m e p = unfold choose in rw e p

  pub looked : (a : ℕ) (k : Bool → Act B) (b : Bool) → elem a (holds w).visited ≡ b → Does f w r w1 (k b) → Does f w r w1 (seen a k)
  looked a k b e p = record { says = unfold seen in rw e p.says; keeps = p.keeps }

  pub measured : (k : ℕ → Act B) → Does f w r w1 (k (length w.file.now)) → Does f w r w1 (sized k)
  measured k p = record { says = unfold sized in p.says; keeps = p.keeps }

  -- the same answer of another step
  pub alike : {m n : Act B} → m w.file.now (holds w) ≡ n w.file.now (holds w) → Does f w r w1 m → Does f w r w1 n
  alike e p = record { says = rw (← e) p.says; keeps = p.keeps }

module _ {A B : Type 0} {f : A → B} {w : Walker} where
  pub done : {a : A} {b : B} → f a ≡ b → Does f w (std.Ok a) w (pure b)
  done e = record { says = unfold pure reason in rw e; keeps = keeps_same }

  pub refused : (k : Kind) (a : ℕ) {e : MdfError} → Does f w (std.Err e) w (stop k a (numbers e))
  refused k a = record { says = unfold stop reason in refl; keeps = keeps_same }

-- a step whose value is dropped
pub dropped : {A B C : Type 0} {f : A → B} {g : A → C} {w w1 : Walker} {m : Act B} {b : C} (r : std.Result A MdfError) → ((a : A) → g a ≡ b)
    → Does f w r w1 m → Does g w r w1 (m >> pure b)
dropped {w} {m} (std.Ok a) e p = record {
  says = unfold ◌>>◌ and_then pure reason in rw (reason_ok (m w.file.now (holds w)) p.says, e a);
  keeps = p.keeps;
}
dropped {w} {m} (std.Err x) e p = record { says = unfold ◌>>◌ in reason_err (m w.file.now (holds w)) _ p.says; keeps = p.keeps }

-- a block that is entered once: `mark` says whether it is new
once_split : {A : Type 0} (x : A) (m : Act A) (r : List ℕ) (s : State) (v : Act (Unit {0})) (b : Bool)
    → (choose b (pure false) (v >> pure true) >>= λ new. choose new m (pure x)) r s ≡ choose b (pure x) (v >> m) r s
unfolding choose pure ◌>>=◌ ◌>>◌ and_then
once_split x m r s v true = refl
once_split x m r s v false = by_answer (v r s)
  where
    by_answer : (z : Result Stop (Unit {0} × State))
        → and_then (and_then {B = Bool × State} z (λ p. ok (true, p.1))) (λ p. choose p.0 m (pure x) r p.1) ≡ and_then z (λ p. m r p.1)
    by_answer (ok p) = refl
    by_answer (err z) = refl

module _ {B : Type 0} (k : Kind) (a : ℕ) (x : B) (m : Act B) where
  once_mark : (r : List ℕ) (s : State) → (mark k a >>= λ new. choose new m (pure x)) r s ≡ once k a x m r s
  once_mark r s = unfold mark once seen ◌>>=◌ in once_split x m r s (visit k a) (elem a s.visited)

  module _ {A : Type 0} {g : A → B} {w w1 : Walker} where
    pub once_halt : {e : MdfError} → Does (λ b. b) w (std.Err e) w1 (mark k a) → Does g w (std.Err e) w1 (once k a x m)
    once_halt p = alike (once_mark w.file.now (holds w)) (halt _ p)

    pub once_old : {b : Bool} {v : A} → b ≡ false → Does (λ b. b) w (std.Ok b) w1 (mark k a) → g v ≡ x → Does g w (std.Ok v) w1 (once k a x m)
    once_old n p e = alike (once_mark w.file.now (holds w)) (then _ p (no m n (done e)))

    pub once_new : {b : Bool} {w2 : Walker} {r : std.Result A MdfError} → b ≡ true → Does (λ b. b) w (std.Ok b) w1 (mark k a) → Does g w1 r w2 m
        → Does g w r w2 (once k a x m)
    once_new n p q = alike (once_mark w.file.now (holds w)) (then _ p (yes _ n q))
