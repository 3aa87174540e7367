-- `read_text` meets its contract: the mark tells the kind, whose parser reads the block or refuses.
use Rattle.std.proofs.Common.{◌≡◌, refl, []}
use Rattle.mdf4.specs.Act.{err, Refusal}
use Rattle.mdf4.specs.Bytes.{bytes}
use Rattle.mdf4.specs.Kinds.{read_block}
use Rattle.mdf4.specs.Walk.{text_kind}
use Rattle.blocks.specs.declared.kind.Kind.TheVariants.{TX, MD, UT}
use Rattle.blocks.proofs.Plain.{plain_ut}
use Rattle.blocks.proofs.Told.{refused_on}
use Rattle.mdf4.specs.Act as spec
use Rattle.walk_blocks.proofs.Reading.{simple_tx, simple_md, simple_ut, plain_found, header_refused, header_told, tx_none, md_none, ut_none, text_tx}
use Rattle.walk_blocks.proofs.Reading.{text_md, text_ut}
use Rattle.walk_blocks.proofs.texts.read_text.Goals as goal

pub returns-in_err-text-clause-refused : goal.returns-in_err-text-clause-refused
returns-in_err-text-clause-refused c =
    let r = c.args.file.now in
    let a = c.args.addr in
    let k = text_tx r a _ c.read_u32-mark.ensures c.if-mark-eq-ID.true in
    refused_on (λ (z : Refusal). read_block (text_kind (bytes r a 24)) r a ≡ err z) _ _ c.from_residual.ensures.1 (rw k c.in_err-text.ensures.refused)

pub returns-then-mark-eq-ID-clause-read : goal.returns-then-mark-eq-ID-clause-read
returns-then-mark-eq-ID-clause-read c =
    let r = c.args.file.now in
    let a = c.args.addr in
    let t = c.in_ok-text.ensures.read in
    let k = text_tx r a _ c.read_u32-mark.ensures c.if-mark-eq-ID.true in
    rw k (plain_found simple_tx r a t.own t.read _ _ TX refl t.long c.read_u32-mark.ensures [] (tx_none t.own) c.plain.ensures)

pub returns-in_err-metadata-clause-refused : goal.returns-in_err-metadata-clause-refused
returns-in_err-metadata-clause-refused c =
    let r = c.args.file.now in
    let a = c.args.addr in
    let k = text_md r a _ c.read_u32-mark.ensures c.if-mark-eq-ID-2.true in
    refused_on (λ (z : Refusal). read_block (text_kind (bytes r a 24)) r a ≡ err z) _ _ c.from_residual-in_err-metadata.ensures.1
    (rw k c.in_err-metadata.ensures.refused)

pub returns-then-mark-eq-ID-2-clause-read : goal.returns-then-mark-eq-ID-2-clause-read
returns-then-mark-eq-ID-2-clause-read c =
    let r = c.args.file.now in
    let a = c.args.addr in
    let t = c.in_ok-metadata.ensures.read in
    let k = text_md r a _ c.read_u32-mark.ensures c.if-mark-eq-ID-2.true in
    rw k (plain_found simple_md r a t.own t.read _ _ MD refl t.long c.read_u32-mark.ensures [] (md_none t.own) c.plain-then-mark-eq-ID-2.ensures)

pub returns-in_err-header-clause-refused : goal.returns-in_err-header-clause-refused
returns-in_err-header-clause-refused c =
    let r = c.args.file.now in
    let a = c.args.addr in
    let k = text_ut r a _ c.read_u32-mark.ensures c.if-mark-eq-ID.false c.if-mark-eq-ID-2.false in
    refused_on (λ (z : Refusal). read_block (text_kind (bytes r a 24)) r a ≡ err z) _ _ c.from_residual-in_err-header.ensures.1
    (rw k (header_refused spec.UT plain_ut r a c.in_err-header.ensures))

pub returns-clause-read : goal.returns-clause-read
returns-clause-read c =
    let r = c.args.file.now in
    let a = c.args.addr in
    let t = header_told spec.UT plain_ut r a c.in_ok-header.ensures in
    let k = text_ut r a _ c.read_u32-mark.ensures c.if-mark-eq-ID.false c.if-mark-eq-ID-2.false in
    rw k (plain_found simple_ut r a t.own t.read _ _ UT refl t.long c.read_u32-mark.ensures [] (ut_none t.own) c.plain-2.ensures)
