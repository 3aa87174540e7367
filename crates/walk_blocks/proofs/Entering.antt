-- For the walk's functions: what entering a block does, told by what its parser and `list_block` ensure. Assumes nothing.
use Rattle.std.specs.Prelude as std
use Rattle.std.proofs.Common.{◌≡◌, List, [], map, ℕ}
use Rattle.mdf4.specs.Act.{ok, err, and_then, Kind, State, Act, raise, reason}
use Rattle.mdf4.specs.Kinds.{shape, RecordLayout, read_block, make_link, name_ok}
use Rattle.mdf4.specs.Walk.{Block, content_ok, after_reading, list_block, enter}
use Rattle.blocks.specs.Errors.{numbers}
use Rattle.blocks.specs.Kind.{kind_named}
use Rattle.blocks.specs.declared.error.MdfError.{MdfError}
use Rattle.walk_state.specs.declared.Block as declared
use Rattle.walk_state.specs.declared.Walker.{Walker}
use Rattle.walk_state.specs.Held.{holds, Does, Lists, listing}
use Rattle.walk_state.proofs.Steps.{keeps_same, alike}
use Rattle.walk_blocks.specs.Blocks.{Found}

-- a refusal hands no block on
abbrev pub Refuses : Walker → MdfError → Act Block → Type 0
Refuses w e m = Does (λ (u : Unit {0}). ([], [])) w (std.Err e) w m

module _ {w : Walker} {e : MdfError} (k : Kind) (a : ℕ) (h : RecordLayout) where
  pub enter_refused : read_block k w.file.now a ≡ err (numbers e) → Refuses w e (enter k a h)
  enter_refused q = record { says = unfold enter raise reason list_block and_then in rw q; keeps = keeps_same }

  -- refusals 2 to 4 and 7 of an identification, then 7 and 8 of a name
  pub content_refused : (o : List ℕ) → read_block k w.file.now a ≡ ok o → content_ok k o ≡ err (numbers e) → Refuses w e (enter k a h)
  content_refused o q c = record { says = unfold enter raise reason list_block after_reading and_then in rw (q, c); keeps = keeps_same }

  pub name_refused : (o : List ℕ) → read_block k w.file.now a ≡ ok o → content_ok k o ≡ ok tt
      → name_ok k w.file.now (map (make_link w.file.now) ((shape k).targets o)) ≡ err (numbers e) → Refuses w e (enter k a h)
  name_refused o q c n = record { says = unfold enter raise reason list_block after_reading and_then in rw (q, c, n); keeps = keeps_same }

-- a block that was found is listed
found_is : {k : Kind} {h : RecordLayout} {r : List ℕ} {a : ℕ} {x : declared.Block} {ts : List ℕ} (p : Found k h r a x ts) (s : State)
    → listing (kind_named x.kind) x.offset h p.own ts r s ≡ enter k a h r s
unfolding listing enter list_block and_then
found_is {k} {ts} p s =
    let t : ts ≡ (shape k).targets p.own = rw p.kind at p.tells.targets in
    rw (p.kind, p.at, p.read, ← t, p.name)

pub found_enters : {k : Kind} {h : RecordLayout} {a : ℕ} {x : declared.Block} {ts : List ℕ} {w w1 : Walker} {r : std.Result (Unit {0}) MdfError}
    (p : Found k h w.file.now a x ts) → Lists h p.own ts x w r w1 → Does (λ u. (p.own, map (make_link w.file.now) ts)) w r w1 (enter k a h)
found_enters {w} p q = alike (found_is p (holds w)) q
