-- What an identification and the fields of a header tell of their rows, and the walk behind a header. Assumes nothing.
use Rattle.std.specs.Prelude as std
use Rattle.std.proofs.Common.{◌≡◌, refl, sym, ℕ, List, [], ◌∷◌}
use Rattle.mdf4.specs.Bytes.{little, num, words}
use Rattle.mdf4.specs.Act.{Out, ok, err, and_then, ID, HD, ◌>>=◌, ◌>>◌}
use Rattle.mdf4.specs.Kinds.{shape, is, no_records, mark_in, records_in, read_block, make_link, name_ok}
use Rattle.mdf4.specs.Walk as definition
use Rattle.mdf4.specs.Walk.{content_ok, enter, addr, link_of}
use Rattle.mdf4.proofs.Results.{and_then_ok}
use Rattle.blocks.specs.IdentificationBlock.{Identification, identification_of, identification}
use Rattle.blocks.proofs.Told.{ok_only}
use Rattle.blocks.proofs.Parse.{parsed_ok}
use Rattle.blocks.specs.Errors.{numbers}
use Rattle.blocks.specs.Parse.{parsed}
use Rattle.blocks.specs.HeaderBlock.{header_block_of}
use Rattle.blocks.specs.declared.header_block.HeaderBlock.{HeaderBlock}
use Rattle.blocks.specs.declared.error.MdfError.{MdfError}
use Rattle.blocks.specs.declared.kind.Kind.TheVariants as kind
use Rattle.walk_state.specs.Held.{Does}
use Rattle.walk_state.specs.Within.{no_layout}
use Rattle.walk_state.specs.declared.Block.{Block}
use Rattle.walk_state.specs.declared.Walker.{Walker}
use Rattle.walk_blocks.specs.Blocks.{Found}
use Rattle.walk_blocks.proofs.Entering.{Refuses, enter_refused, content_refused}
use Rattle.walker.specs.Chains.{entered}
use Rattle.walker.specs.Header.{header_links, enter_header}
use Rattle.walker.proofs.Entering.{own_mark, Opened, behind}

-- an identification that is refused, and one that is read
module _ {w : Walker} where
  pub id_refused : {e : MdfError} → err (numbers e) ≡ identification w.file.now → Refuses w e (enter ID 0 (no_records 0))
  unfolding identification and_then
  id_refused {e} p = go (read_block ID w.file.now 0) refl p
    where
      go : (z : Out (List ℕ)) → read_block ID w.file.now 0 ≡ z → err (numbers e) ≡ and_then z (λ o. and_then (content_ok ID o) (λ u. ok (identification_of o)))
          → Refuses w e (enter ID 0 (no_records 0))
      go (ok o) q d = content_refused ID 0 (no_records 0) o q (ok_only (content_ok ID o) (λ u. identification_of o) _ (sym d))
      go (err x) q d = let z : x ≡ numbers e = cc in enter_refused ID 0 (no_records 0) (rw z at q)

id_told : (r : List ℕ) (o : List ℕ) → read_block ID r 0 ≡ ok o → content_ok ID o ≡ ok tt
    → Found ID (no_records 0) r 0 (record { offset = 0; size = 64; mark = 0x44492323; kind = kind.ID; layout = no_layout }) []
unfolding shape is mark_in records_in name_ok little
id_told r o q t = record {
  own = o;
  read = q;
  kind = refl;
  at = refl;
  tells = record { content = t; size = refl; mark = refl; layout = refl; targets = refl };
  name = refl;
}

pub id_found : (r : List ℕ) {b : Identification} → ok b ≡ identification r
    → {x : Block} → x ≡ record { offset = 0; size = 64; mark = 0x44492323; kind = kind.ID; layout = no_layout } → Found ID (no_records 0) r 0 x []
unfolding identification
id_found r e z =
    let p = and_then_ok (read_block ID r 0) _ _ (sym e) in
    let q = and_then_ok (content_ok ID p.0) _ _ p.2 in
    rw z (id_told r p.0 p.1 q.1)

abbrev targets_of : HeaderBlock → List ℕ
targets_of b = b.first_dg_addr ∷ b.file_history_addr ∷ b.channel_tree_addr ∷ b.first_attachment_addr ∷ b.first_event_addr ∷ b.comment_addr ∷ []

-- a header with the own bytes o and the fields b
module _ (r : List ℕ) (o : List ℕ) (b : HeaderBlock) (e : header_block_of o ≡ b) (q : read_block HD r 64 ≡ ok o) where
  header_mark : 0x44482323 ≡ num o 0 4
  unfolding shape little
  header_mark = own_mark HD r 64 o refl q

  header_told : Opened header_block_of b HD (no_records 0) r 64 (record { offset = 64; size = 104; mark = 0x44482323; kind = kind.HD; layout = no_layout }) (targets_of b)
  unfolding content_ok shape is mark_in records_in name_ok words header_block_of
  header_told = record {
    found = record {
      own = o;
      read = q;
      kind = refl;
      at = refl;
      tells = record { content = refl; size = refl; mark = header_mark; layout = refl; targets = rw (← e) };
      name = refl;
    };
    fields = e;
  }

-- one that was parsed
pub header_found : (r : List ℕ) {b : HeaderBlock} → ok b ≡ parsed header_block_of HD r 64
    → {x : Block} → x ≡ record { offset = 64; size = 104; mark = 0x44482323; kind = kind.HD; layout = no_layout }
    → Opened header_block_of b HD (no_records 0) r 64 x (targets_of b)
header_found r {b} e z = let p = parsed_ok header_block_of HD r 64 (sym e) in rw z (header_told r p.0 b p.2 p.1)

-- the walk behind it
module _ {C : Type 0} (fuel : ℕ) {f : C → Unit {0}} {w w1 : Walker} {r : std.Result C MdfError} where
  pub header_entered : Does f w r w1 (entered HD 64 (no_records 0) header_block_of >>= header_links fuel) → Does f w r w1 (enter_header fuel)
  unfolding enter_header definition.walk_from_header ◌>>=◌ ◌>>◌ addr link_of make_link shape words header_block_of
  header_entered p = behind header_block_of HD 64 (no_records 0) _ (header_links fuel) (λ r o s. refl) p
