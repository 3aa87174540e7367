-- A block that is read and listed, and the walk behind it. Assumes nothing.
use Rattle.std.specs.Prelude as std
use Rattle.std.specs.Result.{IsErrAnd}
use Rattle.std.proofs.Common.{◌≡◌, refl, sym, ◌∙◌, true, ℕ, List, map}
use Rattle.mdf4.specs.Bytes.{num}
use Rattle.mdf4.specs.Act.{Result, Stop, Out, ok, err, and_then, Kind, State, Act, pure, raise, ◌>>=◌}
use Rattle.mdf4.specs.Kinds.{shape, RecordLayout, read_block, make_link, name_ok}
use Rattle.mdf4.specs.Walk.{Block, content_ok, list_block, enter}
use Rattle.mdf4.proofs.Reading.{after_is}
use Rattle.mdf4.proofs.Results.{never, and_then_ok}
use Rattle.blocks.specs.Errors.{numbers}
use Rattle.blocks.specs.Parse.{parsed}
use Rattle.blocks.specs.declared.error.MdfError.{MdfError}
use Rattle.blocks.proofs.Told.{ok_only}
use Rattle.walk_state.specs.Held.{Does, Lists}
use Rattle.walk_state.specs.declared.Block as declared
use Rattle.walk_state.specs.declared.Walker.{Walker}
use Rattle.walk_state.proofs.Steps.{then, halt, handed, done, alike}
use Rattle.walk_blocks.specs.Blocks.{Found}
use Rattle.walk_blocks.proofs.Entering.{enter_refused, name_refused, found_enters}
use Rattle.walk_blocks.proofs.Reading.{mark_own}
use Rattle.walk_blocks.proofs.Walking.{mark_tested}
use Rattle.walker.specs.Chains.{entered}

-- the mark of a kind whose mark is tested, in the block's own bytes
pub own_mark : (k : Kind) (r : List ℕ) (a : ℕ) (o : List ℕ) → (shape k).tested ≡ true → read_block k r a ≡ ok o → (shape k).mark ≡ num o 0 4
own_mark k r a o t e = sym (mark_own k r a o e ∙ mark_tested k r a o t e)

-- a block with the fields b that was found
pub record Opened {A : Type 0} (f : List ℕ → A) (b : A) (k : Kind) (h : RecordLayout) (r : List ℕ) (a : ℕ) (x : declared.Block) (ts : List ℕ) : Type 0 where
  pub found : Found k h r a x ts
  pub fields : f found.own ≡ b

-- it is listed, or its row is refused
module _ {A : Type 0} {f : List ℕ → A} {b : A} {k : Kind} {h : RecordLayout} {a : ℕ} {x : declared.Block} {ts : List ℕ} {w w1 : Walker}
    (y : Opened f b k h w.file.now a x ts) where
  pub listed : Lists h y.found.own ts x w (std.Ok tt) w1 → Does (λ v. v) w (std.Ok b) w1 (entered k a h f)
  unfolding entered
  listed p = then _ (found_enters y.found p) (done (sym y.fields))

  pub unlisted : {C : Type 0} {g : C → A} {e : MdfError} {r : std.Result C MdfError} → IsErrAnd r (λ z. z ≡ e) → Lists h y.found.own ts x w (std.Err e) w1
      → Does g w r w1 (entered k a h f)
  unfolding entered
  unlisted i p = handed _ i (halt _ (found_enters y.found p))

-- it is not read, or its name is refused
module _ {A C : Type 0} (f : List ℕ → A) (k : Kind) (a : ℕ) (h : RecordLayout) {g : C → A} {w : Walker} (e : MdfError) {r : std.Result C MdfError}
    (i : IsErrAnd r (λ z. z ≡ e)) where
  pub not_read : err (numbers e) ≡ parsed f k w.file.now a → Does g w r w (entered k a h f)
  unfolding entered parsed
  not_read p = handed _ i (halt _ (enter_refused k a h (ok_only (read_block k w.file.now a) f _ (sym p))))

  pub not_named : (o : List ℕ) → read_block k w.file.now a ≡ ok o → content_ok k o ≡ ok tt
      → name_ok k w.file.now (map (make_link w.file.now) ((shape k).targets o)) ≡ err (numbers e) → Does g w r w (entered k a h f)
  unfolding entered
  not_named o p c q = handed _ i (halt _ (name_refused k a h o p c q))

-- the walk behind a block takes its own bytes and its links: with its fields alone it is the same
module _ {A B : Type 0} (f : List ℕ → A) (k : Kind) (a : ℕ) (h : RecordLayout) (m : Block → Act B) (n : A → Act B)
    (e : (r o : List ℕ) (s : State) → m (o, map (make_link r) ((shape k).targets o)) r s ≡ n (f o) r s) where
  bodies : (r : List ℕ) (s : State) (z : Result Stop (Block × State)) → enter k a h r s ≡ z
      → and_then (and_then z (λ p. pure (f p.0.0) r p.1)) (λ p. n p.0 r p.1) ≡ and_then z (λ p. m p.0 r p.1)
  unfolding and_then pure enter list_block raise
  bodies r s (err z) q = refl
  bodies r s (ok p) q =
      let t = and_then_ok (read_block k r a) _ p (raise_ok (list_block k a h r s) p q) in
      let u = (after_is k a h s t.0 (map (make_link r) ((shape k).targets t.0)) _ p.0 p.1 t.2).0 in
      rw (u, e r t.0 p.1)
    where
      raise_ok : (z : Out (Block × State)) (p : Block × State) → raise k a s z ≡ ok p → z ≡ ok p
      raise_ok (ok x) p d = cc
      raise_ok (err x) p d = never (sym d)

  -- so the code, which reads the fields first, does what the definition does
  pub behind : {C : Type 0} {g : C → B} {w w1 : Walker} {r : std.Result C MdfError} → Does g w r w1 (entered k a h f >>= n) → Does g w r w1 (enter k a h >>= m)
  unfolding entered ◌>>=◌
  behind {w = w} p = alike (bodies w.file.now _ (enter k a h w.file.now _) refl) p
