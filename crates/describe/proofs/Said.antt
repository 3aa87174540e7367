-- What is said of a block of each kind, of its fields as the code has them.
use Rattle.std.proofs.Common.{◌≡◌, refl, ap, ◌∙◌, ℕ, ◌+◌, ◌-◌, ◌%◌, ◌≤◌, Bool, true, false, cond, eqb, List, [], ◌∷◌, ◌++◌, length, take, drop, map, min, length-drop, arith}
use Rattle.std.proofs.Math.Seq.{take_all}
use Rattle.utf8.specs.Utf8.{chunks, lossy, char_count}
use Rattle.utf8.specs.White.{trim, trim_end}
use Rattle.fmt.specs.Text.{ascii}
use Rattle.fmt.specs.Digits.{dec_signed}
use Rattle.fmt.specs.Format.{format}
use Rattle.fmt.specs.Preview.{preview, unlined}
use Rattle.mdf4.specs.Bytes.{bytes, num, words}
use Rattle.mdf4.specs.Act.{ID, HD, DG, CG, CN, SI, TX, MD, DT, SD, DL, UT, UD}
use Rattle.mdf4.specs.Kinds.{shape, is, read_len, rest, data_at, make_link, name_link, u64_max}
use Rattle.mdf4.specs.Reads.{links_at}
use Rattle.mdf4.specs.Describe.{describe, describe_of, payload, equal_length, data_type_name, name_bytes, name_text, tx_text, md_text}
use Rattle.tables.specs.declared.BlockInfo.{BlockInfo}
use Rattle.tables.specs.Rows.{row_of}
use Rattle.blocks.specs.declared.header_block.HeaderBlock.{HeaderBlock}
use Rattle.blocks.specs.declared.data_group_block.DataGroupBlock.{DataGroupBlock}
use Rattle.blocks.specs.declared.channel_group_block.ChannelGroupBlock.{ChannelGroupBlock}
use Rattle.blocks.specs.declared.channel_block.ChannelBlock.{ChannelBlock}
use Rattle.blocks.specs.declared.source_block.SourceBlock.{SourceBlock}
use Rattle.blocks.specs.declared.data_list_block.DataListBlock.{DataListBlock}
use Rattle.blocks.specs.declared.identification_block.IdentificationBlock.{IdentificationBlock}
use Rattle.blocks.specs.HeaderBlock.{header_block_of}
use Rattle.blocks.specs.DataGroupBlock.{data_group_block_of}
use Rattle.blocks.specs.ChannelGroupBlock.{channel_group_block_of}
use Rattle.blocks.specs.ChannelBlock.{channel_block_of}
use Rattle.blocks.specs.SourceBlock.{source_block_of}
use Rattle.blocks.specs.DataListBlock.{data_list_block_of}
use Rattle.blocks.specs.IdentificationBlock.{Identification, identification_of, identified}
use Rattle.blocks.specs.TextBlock.{TextAt}
use Rattle.describe.specs.Info.{OfKind}
use Rattle.describe.proofs.Own.{own, own_are, whole, described, text_own}

-- the recording from a block on, as the code has it
pub from_is : (r : List ℕ) (a : ℕ) → take (length r - a) (drop a r) ≡ drop a r
from_is r a = take_all (length r - a) (drop a r) (rw length-drop (omega arith))

module _ {r : List ℕ} {b : BlockInfo} (o : OfKind ID r b) where
  id_long : read_len ID r b.offset ≡ 64
  unfolding read_len shape rest is
  id_long = refl

  pub id_begins : b.offset ≤ length r
  id_begins = omega (arith, whole o)

  pub id_fits : 64 ≤ length (take (length r - b.offset) (drop b.offset r))
  id_fits = rw (from_is, length-drop) (omega (arith, whole o, id_long))

  -- its fields are those of its own bytes
  pub id_own : (x : IdentificationBlock) → identified x ≡ identification_of (bytes (take (length r - b.offset) (drop b.offset r)) 0 64) → identified x ≡ identification_of (own r b)
  unfolding bytes
  id_own x e = e ∙ ap identification_of (rw (from_is, own_are o, id_long) refl)

  pub id_said : (x : IdentificationBlock) → identified x ≡ identification_of (own r b)
      → describe r (row_of b) ≡ ascii "Identification: version='" ++ lossy x.version.now ++ ascii "', program='" ++ lossy x.program.now ++ ascii "'"
  unfolding describe_of lossy identified identification_of
  id_said x e =
      let version : chunks x.version.now ≡ trim (chunks (bytes (own r b) 8 8)) = ap (λ (y : Identification). y.version) e in
      let program : chunks x.program.now ≡ trim_end (chunks (bytes (own r b) 16 8)) = ap (λ (y : Identification). y.program) e in
      rw (described o, version, program)

pub hd_said : {r : List ℕ} {b : BlockInfo} → OfKind HD r b → {h : HeaderBlock} → h ≡ header_block_of (own r b)
    → describe r (row_of b) ≡ format (ascii "Header Block (abs_time=% ns, tz=") (h.abs_time ∷ []) ++ dec_signed h.tz_offset ++ ascii " min)"
unfolding describe_of header_block_of
hd_said o e = rw (described o, e)

pub dg_said : {r : List ℕ} {b : BlockInfo} → OfKind DG r b → {h : DataGroupBlock} → h ≡ data_group_block_of (own r b)
    → describe r (row_of b) ≡ format (ascii "Data Group #% (record_id_len=%)") (b.index ∷ h.record_id_len ∷ [])
unfolding describe_of data_group_block_of row_of
dg_said o e = rw (described o, e)

pub cg_said : {r : List ℕ} {b : BlockInfo} → OfKind CG r b → {h : ChannelGroupBlock} → h ≡ channel_group_block_of (own r b)
    → describe r (row_of b)
    ≡ format (ascii "Channel Group #% (cycles=%, record=%B = %B data + %B inval + %B record_id)")
    (b.index ∷ h.cycles_nr ∷ b.record_size ∷ h.samples_byte_nr ∷ b.invalidation_bytes ∷ b.record_id_len ∷ [])
unfolding describe_of channel_group_block_of row_of
cg_said o e = rw (described o, e)

pub cn_said : {r : List ℕ} {b : BlockInfo} → OfKind CN r b → {h : ChannelBlock} → h ≡ channel_block_of (own r b)
    → describe r (row_of b)
    ≡ format (ascii "Channel #% '") (b.index ∷ []) ++ name_text (name_bytes r (make_link r h.name_addr))
    ++ format (ascii "' (ch_type=%, sync=%, dtype=") (h.channel_type ∷ h.sync_type ∷ [])
    ++ data_type_name h.data_type ++ format (ascii ", %b @ byte=% bit=%)") (h.bit_count ∷ h.byte_offset ∷ h.bit_offset ∷ [])
unfolding describe_of channel_block_of row_of is shape name_link links_at words
cn_said {r} {b} o e = rw (described o, e, ← own_are o)

pub si_said : {r : List ℕ} {b : BlockInfo} → OfKind SI r b → {h : SourceBlock} → h ≡ source_block_of (own r b)
    → describe r (row_of b) ≡ format (ascii "Source (type=%, bus_type=%, flags=0x&)") (h.source_type ∷ h.bus_type ∷ h.flags ∷ [])
unfolding describe_of source_block_of
si_said o e = rw (described o, e)

equal_is : (t : Bool) (f : ℕ → List ℕ) (x : ℕ) → cond t (f x) [] ≡ cond t (f (cond t x 0)) []
equal_is true f x = refl
equal_is false f x = refl

pub dl_said : {r : List ℕ} {b : BlockInfo} → OfKind DL r b → {h : DataListBlock} → h ≡ data_list_block_of (own r b)
    → describe r (row_of b)
    ≡ format (ascii "Data List (% fragments") (h.data_block_nr ∷ [])
    ++ cond (eqb (h.flags % 2) 1) (format (ascii ", equal_length=%B") (h.data_block_len ∷ [])) [] ++ ascii ")"
unfolding describe_of equal_length data_list_block_of
dl_said {r} {b} o e =
    rw (described o, e, equal_is (eqb (num (own r b) (data_at (own r b)) 1 % 2) 1) (λ x. format (ascii ", equal_length=%B") (x ∷ [])) (num (own r b) (data_at (own r b) + 8) 8))

pub tx_said : {r : List ℕ} {b : BlockInfo} → OfKind TX r b → {len : ℕ} {t : List ℕ} → TextAt TX tx_text r b.offset len t
    → describe r (row_of b) ≡ ascii "Text: \"" ++ preview 48 (chunks t) ++ format (ascii "\" (% chars)") (char_count t ∷ [])
unfolding describe_of
tx_said o x = rw (described o, text_own o x)

pub md_said : {r : List ℕ} {b : BlockInfo} → OfKind MD r b → {len : ℕ} {t : List ℕ} → TextAt MD md_text r b.offset len t
    → describe r (row_of b) ≡ format (ascii "Metadata (XML, % chars): ") (min (length (lossy t)) u64_max ∷ []) ++ preview 48 (map unlined (chunks t))
unfolding describe_of
md_said o x = rw (described o, text_own o x)

pub dt_said : {r : List ℕ} {b : BlockInfo} → OfKind DT r b → describe r (row_of b) ≡ format (ascii "Data block (% payload bytes)") ((b.size - 24) ∷ [])
unfolding describe_of payload row_of
dt_said o = described o

pub sd_said : {r : List ℕ} {b : BlockInfo} → OfKind SD r b → describe r (row_of b) ≡ format (ascii "Signal data (VLSD stream, % payload bytes)") ((b.size - 24) ∷ [])
unfolding describe_of payload row_of
sd_said o = described o

pub ut_said : {r : List ℕ} {b : BlockInfo} → OfKind UT r b → describe r (row_of b) ≡ ascii "Unknown block (not walked further)"
unfolding describe_of
ut_said o = described o

pub ud_said : {r : List ℕ} {b : BlockInfo} → OfKind UD r b → describe r (row_of b) ≡ ascii "Unknown data block"
unfolding describe_of
ud_said o = described o
