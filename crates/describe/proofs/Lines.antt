-- The line below a block of each kind, of its fields as the code has them.
use Rattle.std.proofs.Common.{◌≡◌, ap, ℕ, ◌⊎◌, ltb, List, [], ◌∷◌, arith}
use Rattle.fmt.specs.Text.{ascii}
use Rattle.fmt.specs.Format.{format}
use Rattle.mdf4.specs.Bytes.{num}
use Rattle.mdf4.specs.Act.{ID, HD, CG, CN, DT, DL}
use Rattle.blocks.specs.declared.kind.Kind.TheVariants as kind
use Rattle.mdf4.specs.Describe.{extra_line, extra_of, indented, records}
use Rattle.tables.specs.declared.BlockInfo.{BlockInfo}
use Rattle.tables.specs.Rows.{row_of}
use Rattle.blocks.specs.declared.header_block.HeaderBlock.{HeaderBlock}
use Rattle.blocks.specs.declared.channel_group_block.ChannelGroupBlock.{ChannelGroupBlock}
use Rattle.blocks.specs.declared.channel_block.ChannelBlock.{ChannelBlock}
use Rattle.blocks.specs.declared.data_list_block.DataListBlock.{DataListBlock}
use Rattle.blocks.specs.declared.identification_block.IdentificationBlock.{IdentificationBlock}
use Rattle.blocks.specs.HeaderBlock.{header_block_of}
use Rattle.blocks.specs.ChannelGroupBlock.{channel_group_block_of}
use Rattle.blocks.specs.ChannelBlock.{channel_block_of}
use Rattle.blocks.specs.DataListBlock.{data_list_block_of}
use Rattle.blocks.specs.IdentificationBlock.{Identification, identification_of, identified}
use Rattle.describe.specs.Info.{OfKind}
use Rattle.describe.proofs.Own.{own, lined}

pub id_line : {r : List ℕ} {b : BlockInfo} → OfKind ID r b → (x : IdentificationBlock) → identified x ≡ identification_of (own r b)
    → extra_line r (row_of b)
    ≡ indented (format (ascii "version_number=%, standard_unfinalized_flags=0x^, custom_unfinalized_flags=0x^")
    (x.version_number ∷ x.standard_unfinalized_flags ∷ x.custom_unfinalized_flags ∷ []))
unfolding extra_of identified identification_of
id_line {r} {b} o x e =
    let version : x.version_number ≡ num (own r b) 28 2 = ap (λ (y : Identification). y.version_number) e in
    let standard : x.standard_unfinalized_flags ≡ num (own r b) 60 2 = ap (λ (y : Identification). y.standard_unfinalized_flags) e in
    let custom : x.custom_unfinalized_flags ≡ num (own r b) 62 2 = ap (λ (y : Identification). y.custom_unfinalized_flags) e in
    rw (lined o, version, standard, custom)

pub hd_line : {r : List ℕ} {b : BlockInfo} → OfKind HD r b → {h : HeaderBlock} → h ≡ header_block_of (own r b)
    → extra_line r (row_of b) ≡ indented (format (ascii "flags=0x&, time_flags=0x&, time_quality=0x&") (h.flags ∷ h.time_flags ∷ h.time_quality ∷ []))
unfolding extra_of header_block_of
hd_line o e = rw (lined o, e)

pub cg_line : {r : List ℕ} {b : BlockInfo} → OfKind CG r b → {h : ChannelGroupBlock} → h ≡ channel_group_block_of (own r b)
    → extra_line r (row_of b) ≡ indented (format (ascii "flags=0x^, record_id=%") (h.flags ∷ h.record_id ∷ []))
unfolding extra_of channel_group_block_of
cg_line o e = rw (lined o, e)

pub cn_line : {r : List ℕ} {b : BlockInfo} → OfKind CN r b → {h : ChannelBlock} → h ≡ channel_block_of (own r b)
    → extra_line r (row_of b) ≡ indented (format (ascii "flags=0x~, pos_invalidation_bit=%, precision=%") (h.flags ∷ h.pos_invalidation_bit ∷ h.precision ∷ []))
unfolding extra_of channel_block_of
cn_line o e = rw (lined o, e)

pub dl_line : {r : List ℕ} {b : BlockInfo} → OfKind DL r b → {h : DataListBlock} → h ≡ data_list_block_of (own r b)
    → extra_line r (row_of b) ≡ indented (format (ascii "flags=0x&") (h.flags ∷ []))
unfolding extra_of data_list_block_of
dl_line o e = rw (lined o, e)

pub dt_line : {r : List ℕ} {b : BlockInfo} → OfKind DT r b → extra_line r (row_of b) ≡ indented (records (ltb 0 b.record_size) (row_of b))
unfolding extra_of row_of
dt_line o = lined o

-- the other kinds have no line
pub no_line : (r : List ℕ) (b : BlockInfo)
    → (b.kind ≡ kind.DG) ⊎ ((b.kind ≡ kind.SI) ⊎ ((b.kind ≡ kind.TX) ⊎ ((b.kind ≡ kind.MD) ⊎ ((b.kind ≡ kind.SD) ⊎ ((b.kind ≡ kind.UT) ⊎ (b.kind ≡ kind.UD)))))) → extra_line r (row_of b) ≡ []
unfolding extra_line extra_of row_of
no_line r b h = grind arith
