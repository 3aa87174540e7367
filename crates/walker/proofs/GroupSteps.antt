-- What the fields of a channel group tell of its row and of the walk behind it, and what a chain of them hands down. Assumes nothing.
use Rattle.std.specs.Prelude as std
use Rattle.std.specs.Prelude.{Option, Some, None, unwrap_or}
use Rattle.std.specs.Option.{option_or}
use Rattle.std.proofs.Common.{◌≡◌, refl, sym, ◌∙◌, true, false, ℕ, ◌≤◌, ◌<◌, List, [], ◌∷◌, take}
use borrow.Author.Tests.{le-leb, lt-leb}
use Rattle.mdf4.specs.Bytes.{little, num, words}
use Rattle.mdf4.specs.Act.{Result, Stop, ok, err, and_then, CG, State, Act, pure, ◌>>=◌, ◌>>◌}
use Rattle.mdf4.specs.Kinds.{shape, is, RecordLayout, no_records, cg_records, mark_in, records_in, read_block, links_nr, make_link, name_ok}
use Rattle.mdf4.specs.Walk.{Handed, hand_down, content_ok, addr, link_of}
use Rattle.blocks.specs.ChannelGroupBlock.{channel_group_block_of}
use Rattle.blocks.specs.Parse.{parsed}
use Rattle.blocks.specs.declared.channel_group_block.ChannelGroupBlock.{ChannelGroupBlock}
use Rattle.blocks.specs.declared.error.MdfError.{MdfError}
use Rattle.blocks.specs.declared.kind.Kind.TheVariants as kind
use Rattle.blocks.proofs.Parse.{parsed_ok}
use Rattle.walk_state.specs.Held.{Does}
use Rattle.walk_state.specs.Within.{layout_of}
use Rattle.walk_state.specs.declared.RecordLayout as declared
use Rattle.walk_state.specs.declared.Walker.{Walker}
use Rattle.walker.specs.Chains.{entered}
use Rattle.walker.specs.Groups.{group_records, channel_group_links, enter_channel_group, handed}
use Rattle.walker.proofs.Entering.{own_mark, Opened, behind}

-- the links shown: six, or seven where it has seven
abbrev pub seven : ChannelGroupBlock → List ℕ
seven g =
    g.next_cg_addr ∷ g.first_ch_addr ∷ g.acq_name_addr ∷ g.acq_source_addr ∷ g.first_sample_reduction_addr ∷ g.comment_addr ∷ g.master_cg_addr ∷ []

module _ (o : List ℕ) (g : ChannelGroupBlock) (e : channel_group_block_of o ≡ g) {n : ℕ} where
  pub six_targets : n ≡ 6 → g.links_nr < 7 → take n (seven g) ≡ (shape CG).targets o
  unfolding channel_group_block_of shape words
  six_targets i h = let h' = rw (← e) at h in rw (i, ← e, lt-leb 7 (links_nr o) h')

  pub seven_targets : n ≡ 7 → 7 ≤ g.links_nr → take n (seven g) ≡ (shape CG).targets o
  unfolding channel_group_block_of shape words
  seven_targets i h = let h' = rw (← e) at h in rw (i, ← e, le-leb 7 (links_nr o) h')

-- its row, with the links ts shown
module _ (r : List ℕ) (a : ℕ) (o : List ℕ) (g : ChannelGroupBlock) (e : channel_group_block_of o ≡ g) (q : read_block CG r a ≡ ok o) where
  group_mark : 0x47432323 ≡ num o 0 4
  unfolding shape little
  group_mark = own_mark CG r a o refl q

  group_told : (n : ℕ) {m : ℕ} → m ≡ 0x47432323 → {l : declared.RecordLayout} → layout_of l ≡ group_records n g → (ts : List ℕ) → ts ≡ (shape CG).targets o
      → Opened channel_group_block_of g CG (no_records n) r a (record { offset = a; size = g.block_len; mark = m; kind = kind.CG; layout = l }) ts
  unfolding content_ok shape is mark_in records_in cg_records name_ok channel_group_block_of
  group_told n z d ts t = record {
    found = record {
      own = o;
      read = q;
      kind = refl;
      at = refl;
      tells = record { content = refl; size = rw (← e); mark = z ∙ group_mark; layout = d ∙ rw (← e); targets = t };
      name = refl;
    };
    fields = e;
  }

-- a channel group that was parsed
pub group_found : (r : List ℕ) (a : ℕ) {g : ChannelGroupBlock} → ok g ≡ parsed channel_group_block_of CG r a
    → (n : ℕ) {m : ℕ} → m ≡ 0x47432323 → {l : declared.RecordLayout} → layout_of l ≡ group_records n g
    → (ts : List ℕ) → ((o : List ℕ) → channel_group_block_of o ≡ g → ts ≡ (shape CG).targets o)
    → Opened channel_group_block_of g CG (no_records n) r a (record { offset = a; size = g.block_len; mark = m; kind = kind.CG; layout = l }) ts
group_found r a {g} e n z d ts t =
    let p = parsed_ok channel_group_block_of CG r a (sym e) in group_told r a p.0 g p.2 p.1 n z d ts (t p.0 p.2)

-- the walk behind it
module _ {C : Type 0} (fuel n : ℕ) (got : Handed) {f : C → ℕ × Handed} {w w1 : Walker} {r : std.Result C MdfError} where
  pub group_entered : (a : ℕ) → Does f w r w1 (entered CG a (no_records n) channel_group_block_of >>= channel_group_links fuel n a got)
      → Does f w r w1 (enter_channel_group fuel n a got)
  unfolding enter_channel_group ◌>>=◌ ◌>>◌ addr link_of make_link shape words channel_group_block_of cg_records
  group_entered a p = behind channel_group_block_of CG a (no_records n) _ (channel_group_links fuel n a got) (λ r o s. refl) p

-- what a chain hands down, once its groups so far have the record layout x of the first one
abbrev pub handed_of : ℕ → Option declared.RecordLayout → Handed
handed_of n (Some x) = (true, layout_of x)
handed_of n None = (false, no_records n)

pub handed_more : (n : ℕ) (x : Option declared.RecordLayout) (y : declared.RecordLayout) → hand_down (layout_of y) (handed_of n x) ≡ handed_of n (option_or x (Some y))
unfolding hand_down
handed_more n (Some x) y = refl
handed_more n None y = refl

pub handed_last : (n : ℕ) (x : Option declared.RecordLayout) (y : declared.RecordLayout) → layout_of y ≡ no_records n → layout_of (unwrap_or x y) ≡ (handed_of n x).1
handed_last n (Some x) y e = refl
handed_last n None y e = e

-- with the record layout that is handed down alone, the walk behind the groups is the same
module _ {A B : Type 0} (m : Act A) (n : Act Handed) (k : RecordLayout → Act B) where
  pub layout_alone : (x : List ℕ) (s : State) → ((m >> handed n) >>= k) x s ≡ ((m >> n) >>= λ got. k got.1) x s
  unfolding handed ◌>>=◌ ◌>>◌ pure and_then
  layout_alone x s = first (m x s)
    where
      second : (z : Result Stop (Handed × State)) → and_then {B = B × State} (and_then {B = RecordLayout × State} z (λ p. ok (p.0.1, p.1))) (λ p. k p.0 x p.1) ≡ and_then z (λ p. k p.0.1 x p.1)
      second (ok p) = refl
      second (err z) = refl

      first : (z : Result Stop (A × State))
          → and_then {B = B × State} (and_then z (λ p. and_then {B = RecordLayout × State} (n x p.1) (λ p. ok (p.0.1, p.1)))) (λ p. k p.0 x p.1) ≡ and_then (and_then z (λ p. n x p.1)) (λ p. k p.0.1 x p.1)
      first (ok p) = second (n x p.1)
      first (err z) = refl
