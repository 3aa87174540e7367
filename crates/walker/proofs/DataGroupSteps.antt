-- What the fields of a data group tell of its row and of the walk behind it. Assumes nothing.
use Rattle.std.specs.Prelude as std
use Rattle.std.proofs.Common.{◌≡◌, refl, sym, ap, ◌∙◌, false, ℕ, List, [], ◌∷◌}
use Rattle.mdf4.specs.Bytes.{little, num, words}
use Rattle.mdf4.specs.Act.{ok, DG, Link, pure, ◌>>=◌, ◌>>◌, chain, by_link}
use Rattle.mdf4.specs.Kinds.{shape, is, no_records, mark_in, records_in, read_block, make_link, name_ok}
use Rattle.mdf4.specs.Walk.{content_ok, addr, link_of, walk_text_like, walk_channel_group, walk_data_region, max_lists}
use Rattle.blocks.specs.DataGroupBlock.{data_group_block_of}
use Rattle.blocks.specs.Parse.{parsed}
use Rattle.blocks.specs.declared.data_group_block.DataGroupBlock.{DataGroupBlock}
use Rattle.blocks.specs.declared.error.MdfError.{MdfError}
use Rattle.blocks.specs.declared.kind.Kind.TheVariants as kind
use Rattle.blocks.proofs.Parse.{parsed_ok}
use Rattle.walk_state.specs.Held.{Keeps, Does}
use Rattle.walk_state.specs.Within.{no_layout}
use Rattle.walk_state.specs.declared.Block.{Block}
use Rattle.walk_state.specs.declared.Walker.{Walker}
use Rattle.walk_state.proofs.Steps.{keeps_then, alike}
use Rattle.walker.specs.Chains.{entered}
use Rattle.walker.specs.DataGroups.{data_group_links, enter_data_group}
use Rattle.walker.specs.Groups.{handed}
use Rattle.walker.proofs.Chaining.{same_file}
use Rattle.walker.proofs.GroupSteps.{layout_alone}
use Rattle.walker.proofs.Entering.{own_mark, Opened, behind}

abbrev targets_of : DataGroupBlock → List ℕ
targets_of g = g.next_dg_addr ∷ g.first_cg_addr ∷ g.data_block_addr ∷ g.comment_addr ∷ []

-- a data group with the own bytes o and the fields b
module _ (r : List ℕ) (a : ℕ) (o : List ℕ) (b : DataGroupBlock) (e : data_group_block_of o ≡ b) (q : read_block DG r a ≡ ok o) where
  group_mark : 0x47442323 ≡ num o 0 4
  unfolding shape little
  group_mark = own_mark DG r a o refl q

  group_told : Opened data_group_block_of b DG (no_records 0) r a (record { offset = a; size = b.block_len; mark = 0x47442323; kind = kind.DG; layout = no_layout }) (targets_of b)
  unfolding content_ok shape is mark_in records_in name_ok words data_group_block_of
  group_told = record {
    found = record {
      own = o;
      read = q;
      kind = refl;
      at = refl;
      tells = record { content = refl; size = rw (← e); mark = group_mark; layout = refl; targets = rw (← e) };
      name = refl;
    };
    fields = e;
  }

-- one that was parsed
pub data_group_found : (r : List ℕ) (a : ℕ) {b : DataGroupBlock} → ok b ≡ parsed data_group_block_of DG r a
    → {x : Block} → x ≡ record { offset = a; size = b.block_len; mark = 0x47442323; kind = kind.DG; layout = no_layout }
    → Opened data_group_block_of b DG (no_records 0) r a x (targets_of b)
data_group_found r a {b} e z = let p = parsed_ok data_group_block_of DG r a (sym e) in rw z (group_told r a p.0 b p.2 p.1)

-- a link that the walker makes later is the same
pub link_kept : {w w1 w2 : Walker} (t : ℕ) {l : Link} → Keeps w w1 → Keeps w1 w2 → l ≡ make_link w2.file.now t → l ≡ make_link w.file.now t
link_kept t p q e = e ∙ ap (λ (x : List ℕ). make_link x t) (same_file (keeps_then p q))

-- the walk behind it, with the link to its data that the walker makes
module _ {C : Type 0} (fuel a : ℕ) {f : C → ℕ × Unit {0}} {w w1 : Walker} {r : std.Result C MdfError} where
  pub data_group_entered : Does f w r w1 (entered DG a (no_records 0) data_group_block_of >>= λ x. data_group_links fuel a x (make_link w.file.now x.data_block_addr))
      → Does f w r w1 (enter_data_group fuel a)
  unfolding enter_data_group handed ◌>>=◌ ◌>>◌ by_link addr link_of make_link shape words data_group_block_of
  data_group_entered p =
      behind data_group_block_of DG a (no_records 0) _ (λ x r. data_group_links fuel a x (make_link r x.data_block_addr) r)
      (λ r o s. sym (layout_alone (by_link a 3 (walk_text_like (num o 48 8)))
      (by_link a 1 (chain fuel (walk_channel_group fuel (num o 56 1)) (num o 32 8) (false, no_records (num o 56 1))))
      (λ h. by_link a 2 (walk_data_region max_lists h (make_link r (num o 40 8))) >> by_link a 0 (pure (num o 24 8, tt))) r s)) (alike refl p)
