-- What the fields of a channel tell of its row, its name and the walk behind it. Assumes nothing.
use Rattle.std.specs.Prelude as std
use Rattle.std.specs.Prelude.{Option}
use Rattle.std.specs.Borrow.{Bor}
use Rattle.std.proofs.Common.{◌≡◌, refl, sym, ◌∙◌, ℕ, List, [], ◌∷◌, map, length, eqb}
use Rattle.mdf4.specs.Bytes.{little, num, words}
use Rattle.mdf4.specs.Act.{ok, err, CN, choose, pure, ◌>>=◌, ◌>>◌, by_link}
use Rattle.mdf4.specs.Kinds.{shape, is, no_records, mark_in, records_in, read_block, make_link, name_link, name_head, name_check, name_ok}
use Rattle.mdf4.specs.Walk.{content_ok, addr, link_of, max_lists, walk_data_region}
use Rattle.mdf4.proofs.Results.{and_then_ok}
use Rattle.blocks.specs.ChannelBlock.{channel_block_of}
use Rattle.blocks.specs.Errors.{numbers}
use Rattle.blocks.specs.Parse.{parsed}
use Rattle.blocks.specs.declared.channel_block.ChannelBlock.{ChannelBlock}
use Rattle.blocks.specs.declared.error.MdfError.{MdfError}
use Rattle.blocks.specs.declared.kind.Kind.TheVariants as kind
use Rattle.blocks.proofs.Parse.{parsed_ok}
use Rattle.blocks.proofs.Told.{ok_only}
use Rattle.channel_name.specs.Name.{name_at, name_read}
use Rattle.walk_state.specs.Held.{Does, Walks}
use Rattle.walk_state.specs.Within.{no_layout}
use Rattle.walk_state.specs.declared.Block.{Block}
use Rattle.walk_state.specs.declared.Walker.{Walker}
use Rattle.walk_state.proofs.Steps.{alike}
use Rattle.walker.specs.Chains.{entered}
use Rattle.walker.specs.Channels.{channel_data, channel_links, enter_channel}
use Rattle.walker.proofs.Entering.{own_mark, Opened, behind}

-- the targets of a channel's links
abbrev targets_of : ChannelBlock → List ℕ
targets_of x =
    x.next_ch_addr ∷ x.component_addr ∷ x.name_addr ∷ x.source_addr ∷ x.conversion_addr ∷ x.data_addr ∷ x.unit_addr ∷ x.comment_addr ∷ []

pub content_cn : (o : List ℕ) → content_ok CN o ≡ ok tt
unfolding content_ok is shape
content_cn o = refl

-- the name that a channel with the own bytes o and the fields x leads to
module _ (r : List ℕ) (o : List ℕ) (x : ChannelBlock) (e : channel_block_of o ≡ x) where
  own_name : name_ok CN r (map (make_link r) ((shape CN).targets o)) ≡ name_check (length r) (make_link r x.name_addr) (name_head r (make_link r x.name_addr))
  unfolding name_ok is name_link shape words channel_block_of
  own_name = rw (← e)

  pub unnamed : (n : MdfError) → err (numbers n) ≡ name_at r (make_link r x.name_addr) → name_ok CN r (map (make_link r) ((shape CN).targets o)) ≡ err (numbers n)
  unfolding name_at
  unnamed n p = own_name ∙ ok_only _ _ _ (sym p)

  named : {t : List ℕ} → ok t ≡ name_at r (make_link r x.name_addr) → name_ok CN r (map (make_link r) (targets_of x)) ≡ ok tt
  unfolding name_at name_ok is shape name_link
  named p = (and_then_ok _ _ _ (sym p)).1

  channel_name : (t : Option (Bor (List ℕ))) → name_read (std.Ok t) ≡ name_at r (make_link r x.name_addr) → name_ok CN r (map (make_link r) (targets_of x)) ≡ ok tt
  channel_name (std.Some t) p = named p
  channel_name std.None p = named p

  -- its row
  module _ (a : ℕ) (q : read_block CN r a ≡ ok o) where
    channel_mark : 0x4e432323 ≡ num o 0 4
    unfolding shape little
    channel_mark = own_mark CN r a o refl q

    channel_told : (t : Option (Bor (List ℕ))) → name_read (std.Ok t) ≡ name_at r (make_link r x.name_addr)
        → Opened channel_block_of x CN (no_records 0) r a (record { offset = a; size = x.block_len; mark = 0x4e432323; kind = kind.CN; layout = no_layout }) (targets_of x)
    unfolding shape is mark_in records_in words channel_block_of
    channel_told t n = record {
      found = record {
        own = o;
        read = q;
        kind = refl;
        at = refl;
        tells = record { content = content_cn o; size = rw (← e); mark = channel_mark; layout = refl; targets = rw (← e) };
        name = channel_name t n;
      };
      fields = e;
    }

-- a channel that was parsed, and its name
pub channel_found : (r : List ℕ) (a : ℕ) {b : ChannelBlock} → ok b ≡ parsed channel_block_of CN r a
    → (t : Option (Bor (List ℕ))) → name_read (std.Ok t) ≡ name_at r (make_link r b.name_addr)
    → {x : Block} → x ≡ record { offset = a; size = b.block_len; mark = 0x4e432323; kind = kind.CN; layout = no_layout }
    → Opened channel_block_of b CN (no_records 0) r a x (targets_of b)
channel_found r a {b} e t n z = let p = parsed_ok channel_block_of CN r a (sym e) in rw z (channel_told r p.0 b p.2 a p.1 t n)

-- its own data, of the link that the walker makes
module _ {w w1 : Walker} {r : std.Result (Unit {0}) MdfError} (x : ChannelBlock) where
  pub data_of : Walks w r w1 (choose (eqb x.channel_type 1) (walk_data_region max_lists (no_records 0) (make_link w.file.now x.data_addr)) (pure tt))
      → Walks w r w1 (channel_data x)
  unfolding channel_data
  data_of p = alike refl p

-- the walk behind it
module _ {C : Type 0} {g : C → ℕ × Unit {0}} {w w1 : Walker} {r : std.Result C MdfError} where
  pub channel_entered : (a : ℕ) → Does g w r w1 (entered CN a (no_records 0) channel_block_of >>= channel_links a) → Does g w r w1 (enter_channel a)
  unfolding enter_channel channel_data ◌>>=◌ ◌>>◌ by_link choose addr link_of make_link shape words channel_block_of
  channel_entered a p = behind channel_block_of CN a (no_records 0) _ (channel_links a) (λ r o s. refl) p
