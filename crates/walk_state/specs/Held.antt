-- The state that a walker's tables hold, and what each of its methods does to it. A method that answers does what the definition's
-- step does: the same state, or the same refusal.
use Rattle.std.specs.Prelude as std
use Rattle.std.specs.Prelude.{◌≡◌, Bool, true, false, List, map, ℕ, ◌≤◌, length}
use Rattle.mdf4.specs.Act.{Out, ok, err, raise, reason, Kind, State, Act, choose, pure, ◌>>◌, seen, visit}
use Rattle.mdf4.specs.Kinds.{RecordLayout, make_link}
use Rattle.mdf4.specs.Walk as definition
use Rattle.mdf4.specs.Walk.{after_reading}
use Rattle.blocks.specs.Errors.{numbers}
use Rattle.blocks.specs.Kind.{kind_named}
use Rattle.blocks.specs.declared.error.MdfError.{MdfError}
use Rattle.walk_state.specs.declared.Block.{Block}
use Rattle.walk_state.specs.declared.Walker.{Walker}
use Rattle.walk_state.specs.Within.{held}

abbrev pub holds : Walker → State
holds w = held w.walk w.visited.now w.blocks.now w.links.now

-- what an answer says, with the state that is held then; f reads its value
abbrev pub outcome : {A B : Type 0} → (A → B) → std.Result A MdfError → State → Out (B × State)
outcome f (std.Ok a) s = ok (f a, s)
outcome f (std.Err e) s = err (numbers e)

-- the recording and the lent tables stay the walker's, and no offset is forgotten
pub record Keeps (w w' : Walker) : Type 0 where
  pub file : w'.file ≡ w.file
  pub visited : w'.visited.ghost_name ≡ w.visited.ghost_name
  pub blocks : w'.blocks.ghost_name ≡ w.blocks.ghost_name
  pub links : w'.links.ghost_name ≡ w.links.ghost_name
  pub visited_long : length w'.visited.now ≡ length w.visited.now
  pub blocks_long : length w'.blocks.now ≡ length w.blocks.now
  pub links_long : length w'.links.now ≡ length w.links.now
  pub grew : w.walk.visited ≤ w'.walk.visited

-- a step from w that answers r and leaves w' does what the definition's `act` does
pub record Does {A B : Type 0} (f : A → B) (w : Walker) (r : std.Result A MdfError) (w' : Walker) (act : Act B) : Type 0 where
  pub says : outcome f r (holds w') ≡ reason (act w.file.now (holds w))
  pub keeps : Keeps w w'

-- the same of a step that answers no value
abbrev pub Walks : Walker → std.Result (Unit {0}) MdfError → Walker → Act (Unit {0}) → Type 0
Walks w r w' act = Does (λ u. u) w r w' act

-- a step from w that cannot refuse leaves w', which holds s
pub record Stepped (w w' : Walker) (s : State) : Type 0 where
  pub says : holds w' ≡ s
  pub keeps : Keeps w w'

-- an offset is marked as visited: whether it is new
unfoldable pub mark : Kind → ℕ → Act Bool
mark k a = seen a λ b. choose b (pure false) (visit k a >> pure true)

-- a block at a is listed, of which the own bytes o were read and the name accepted; its links lead to ts
unfoldable pub listing : Kind → ℕ → RecordLayout → List ℕ → List ℕ → Act definition.Block
listing k a h o ts r s = raise k a s (after_reading k a h s o (map (make_link r) ts) (ok tt))

abbrev pub Lists : RecordLayout → List ℕ → List ℕ → Block → Walker → std.Result (Unit {0}) MdfError → Walker → Type 0
Lists h o ts x w r w' = Does (λ u. (o, map (make_link w.file.now) ts)) w r w' (listing (kind_named x.kind) x.offset h o ts)
