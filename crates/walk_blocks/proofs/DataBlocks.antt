-- Data blocks: the kinds of which the header alone is read, and a block that is marked and listed. Assumes nothing.
use Rattle.std.proofs.Common.{◌≡◌, refl, sym, ◌∙◌, List, [], ℕ, ◌⊎◌, inl, inr}
use Rattle.mdf4.specs.Act.{Refusal, ok, err, Kind, DT, SD, UD}
use Rattle.mdf4.specs.Kinds.{shape, is, RecordLayout, no_records, records_in, read_block}
use Rattle.blocks.specs.Headers.{inside_or}
use Rattle.blocks.specs.Kind.{kind_named}
use Rattle.blocks.specs.declared.common.BlockHeader.{BlockHeader}
use Rattle.blocks.specs.declared.kind.Kind as code
use Rattle.blocks.specs.declared.kind.Kind.TheVariants as kinds
use Rattle.blocks.proofs.Plain.{Plain, plain_dt, plain_sd, plain_ud}
use Rattle.walk_state.specs.declared.RecordLayout as declared
use Rattle.walk_state.specs.Within.{layout_of}
use Rattle.walk_blocks.specs.Blocks.{Found}
use Rattle.walk_blocks.specs.Regions.{Data}
use Rattle.walk_blocks.proofs.Reading.{Simple, simple_dt, simple_sd, simple_ud, simple_found, header_refused, header_told}

-- what the header tells of such a kind
record Headed (k : Kind) : Type 0 where
  plain : Plain k
  simple : Simple k
  none : (o : List ℕ) → [] ≡ (shape k).targets o

headed : (k : Kind) → (k ≡ DT) ⊎ (k ≡ SD) ⊎ (k ≡ UD) → Headed k
unfolding shape
headed k (inl e) = rw e (record { plain = plain_dt; simple = simple_dt; none = λ o. refl })
headed k (inr (inl e)) = rw e (record { plain = plain_sd; simple = simple_sd; none = λ o. refl })
headed k (inr (inr e)) = rw e (record { plain = plain_ud; simple = simple_ud; none = λ o. refl })

module _ {h : RecordLayout} {c : code.Kind} {x : declared.RecordLayout} (t : Data h c x) (r : List ℕ) (a : ℕ) where
  pub data_refused : {e : Refusal} → err e ≡ inside_or r a 24 → read_block (kind_named c) r a ≡ err e
  data_refused p = header_refused (kind_named c) (headed (kind_named c) t.one).plain r a p

  pub data_found : {b : BlockHeader} → ok b ≡ inside_or r a 24 → {m : ℕ} → m ≡ b.id
      → Found (kind_named c) h r a (record { offset = a; size = b.block_len; mark = m; kind = c; layout = x }) []
  data_found {b} p {m} e =
      let y = headed (kind_named c) t.one in
      let q = header_told (kind_named c) y.plain r a p in
      simple_found y.simple r a q.own q.read (record { offset = a; size = b.block_len; mark = m; kind = c; layout = x }) refl refl q.long (e ∙ q.mark)
      (sym (t.records q.own)) [] (y.none q.own)

-- what the callers tell
pub data_records : (x : declared.RecordLayout) → Data (layout_of x) kinds.DT x
unfolding shape is records_in
data_records x = record { one = inl refl; records = λ o. refl }

abbrev pub IsZero : declared.RecordLayout → Type 0
IsZero x = (x.record_size ≡ 0) × ((x.invalidation_bytes ≡ 0) × (x.record_id_len ≡ 0))

pub data_signal : (x : declared.RecordLayout) → IsZero x → Data (no_records 0) kinds.SD x
unfolding shape is records_in
data_signal x e = record { one = inr (inl refl); records = λ o. rw (e.0, e.1.0, e.1.1) }

pub data_unknown : (x : declared.RecordLayout) → IsZero x → Data (no_records 0) kinds.UD x
unfolding shape is records_in
data_unknown x e = record { one = inr (inr refl); records = λ o. rw (e.0, e.1.0, e.1.1) }
