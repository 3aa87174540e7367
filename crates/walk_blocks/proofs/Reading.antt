-- For the walk's functions: what a block that was parsed tells `list_block`. Assumes nothing.
use Rattle.std.proofs.Common.{◌≡◌, refl, sym, ap, ◌∙◌, List, [], map, ℕ, ◌+◌, ◌≤◌, arith}
use borrow.Author.Tests.{ne_eqb}
use Rattle.mdf4.specs.Bytes.{little, num, bytes}
use Rattle.mdf4.specs.Act.{Refusal, ok, err, Kind, SI, TX, MD, DT, SD, DL, UT, UD, Link}
use Rattle.mdf4.specs.Kinds.{shape, is, block_len, mark_in, no_records, records_in, RecordLayout, read_block, read_len, make_link, name_ok}
use Rattle.mdf4.specs.Walk.{content_ok, text_kind}
use Rattle.mdf4.proofs.Fields.{num_bytes}
use Rattle.mdf4.proofs.Reading.{read_is, need_least}
use Rattle.blocks.specs.Kind.{kind_named}
use Rattle.blocks.specs.declared.common.BlockHeader.{BlockHeader}
use Rattle.blocks.specs.declared.kind.Kind as code
use Rattle.blocks.specs.Headers.{header_of, inside_or}
use Rattle.blocks.specs.Parse.{parsed}
use Rattle.blocks.proofs.Told.{ok_only}
use Rattle.blocks.proofs.Parse.{parsed_ok}
use Rattle.blocks.proofs.Plain.{Plain, plain_header}
use Rattle.walk_state.specs.declared.Block.{Block}
use Rattle.walk_state.specs.Within.{no_layout, layout_of}
use Rattle.walk_blocks.specs.Blocks.{Found}

-- a mark stands in the header, and in the block's own bytes
pub mark_head : (r : List ℕ) (a n : ℕ) → 4 ≤ n → num (bytes r a n) 0 4 ≡ num r a 4
mark_head r a n h =
    let z : a + 0 ≡ a = omega arith in
    num_bytes r a n 0 4 (omega arith) ∙ ap (λ (j : ℕ). num r j 4) z

pub mark_own : (k : Kind) (r : List ℕ) (a : ℕ) (o : List ℕ) → read_block k r a ≡ ok o → num o 0 4 ≡ num r a 4
unfolding read_len
mark_own k r a o e =
    ap (λ (b : List ℕ). num b 0 4) (read_is k r a o e) ∙ mark_head r a (read_len k r a) (omega (arith, need_least k (bytes r a 24)))

-- a kind that tells its length, its mark and its links, and but for a data block nothing else
pub record Simple (k : Kind) : Type 0 where
  pub content : (o : List ℕ) → content_ok k o ≡ ok tt
  pub size : (o : List ℕ) → (shape k).size o ≡ block_len o
  pub mark : (o : List ℕ) → mark_in k o ≡ num o 0 4
  pub records : (o : List ℕ) → records_in k (no_records 0) o ≡ no_records 0
  pub name : (r : List ℕ) (ls : List Link) → name_ok k r ls ≡ ok tt

pub simple_si : Simple SI
unfolding content_ok shape is mark_in records_in name_ok
simple_si = record { content = λ o. refl; size = λ o. refl; mark = λ o. refl; records = λ o. refl; name = λ r ls. refl }

pub simple_tx : Simple TX
unfolding content_ok shape is mark_in records_in name_ok
simple_tx = record { content = λ o. refl; size = λ o. refl; mark = λ o. refl; records = λ o. refl; name = λ r ls. refl }

pub simple_md : Simple MD
unfolding content_ok shape is mark_in records_in name_ok
simple_md = record { content = λ o. refl; size = λ o. refl; mark = λ o. refl; records = λ o. refl; name = λ r ls. refl }

pub simple_dt : Simple DT
unfolding content_ok shape is mark_in records_in name_ok
simple_dt = record { content = λ o. refl; size = λ o. refl; mark = λ o. refl; records = λ o. refl; name = λ r ls. refl }

pub simple_sd : Simple SD
unfolding content_ok shape is mark_in records_in name_ok
simple_sd = record { content = λ o. refl; size = λ o. refl; mark = λ o. refl; records = λ o. refl; name = λ r ls. refl }

pub simple_dl : Simple DL
unfolding content_ok shape is mark_in records_in name_ok
simple_dl = record { content = λ o. refl; size = λ o. refl; mark = λ o. refl; records = λ o. refl; name = λ r ls. refl }

pub simple_ut : Simple UT
unfolding content_ok shape is mark_in records_in name_ok
simple_ut = record { content = λ o. refl; size = λ o. refl; mark = λ o. refl; records = λ o. refl; name = λ r ls. refl }

pub simple_ud : Simple UD
unfolding content_ok shape is mark_in records_in name_ok
simple_ud = record { content = λ o. refl; size = λ o. refl; mark = λ o. refl; records = λ o. refl; name = λ r ls. refl }

-- such a block that was read
pub simple_found : {k : Kind} → Simple k → {h : RecordLayout} (r : List ℕ) (a : ℕ) (o : List ℕ) → read_block k r a ≡ ok o → (x : Block)
    → kind_named x.kind ≡ k → x.offset ≡ a → x.size ≡ block_len o → x.mark ≡ num r a 4 → layout_of x.layout ≡ records_in k h o → (ts : List ℕ)
    → ts ≡ (shape k).targets o → Found k h r a x ts
simple_found {k} y {h} r a o q x e at long mark layout ts t = record {
  own = o;
  read = q;
  kind = e;
  at = at;
  tells = record {
    content = rw e (y.content o);
    size = rw e (long ∙ sym (y.size o));
    mark = rw e (mark ∙ sym (y.mark o ∙ mark_own k r a o q));
    layout = rw e layout;
    targets = rw e t;
  };
  name = y.name r (map (make_link r) ts);
}

-- the same of what `Block::plain` makes
pub plain_found : {k : Kind} → Simple k → (r : List ℕ) (a : ℕ) (o : List ℕ) → read_block k r a ≡ ok o → (n m : ℕ) (c : code.Kind) → kind_named c ≡ k
    → n ≡ block_len o → m ≡ num r a 4 → (ts : List ℕ) → ts ≡ (shape k).targets o
    → {x : Block} → x ≡ record { offset = a; size = n; mark = m; kind = c; layout = no_layout } → Found k (no_records 0) r a x ts
plain_found {k} y r a o q n m c e long mark ts t z =
    rw z (simple_found y r a o q (record { offset = a; size = n; mark = m; kind = c; layout = no_layout }) e refl long mark (sym (y.records o)) ts t)

-- a kind of which the header alone is read
pub header_refused : (k : Kind) → Plain k → (r : List ℕ) (a : ℕ) {e : Refusal} → err e ≡ inside_or r a 24 → read_block k r a ≡ err e
unfolding parsed
header_refused k x r a e = ok_only (read_block k r a) header_of _ (plain_header k x r a ∙ sym e)

pub record HeaderTold (k : Kind) (r : List ℕ) (a : ℕ) (h : BlockHeader) : Type 0 where
  pub own : List ℕ
  pub read : read_block k r a ≡ ok own
  pub long : h.block_len ≡ block_len own
  pub mark : h.id ≡ num r a 4

pub header_told : (k : Kind) → Plain k → (r : List ℕ) (a : ℕ) {h : BlockHeader} → ok h ≡ inside_or r a 24 → HeaderTold k r a h
unfolding header_of
header_told k x r a {h} e =
    let p = parsed_ok header_of k r a (plain_header k x r a ∙ sym e) in
    record {
      own = p.0;
      read = p.1;
      long = ap (λ (g : BlockHeader). g.block_len) (sym p.2);
      mark = ap (λ (g : BlockHeader). g.id) (sym p.2) ∙ mark_own k r a p.0 p.1;
    }

-- texts show no links
pub tx_none : (o : List ℕ) → [] ≡ (shape TX).targets o
unfolding shape
tx_none o = refl

pub md_none : (o : List ℕ) → [] ≡ (shape MD).targets o
unfolding shape
md_none o = refl

pub ut_none : (o : List ℕ) → [] ≡ (shape UT).targets o
unfolding shape
ut_none o = refl

-- the kind of a text, by the mark m as the code has it
module _ (r : List ℕ) (a m : ℕ) (e : m ≡ num r a 4) where
  mark_is : num (bytes r a 24) 0 4 ≡ m
  mark_is = mark_head r a 24 (omega arith) ∙ sym e

  pub text_tx : m ≡ 0x58542323 → text_kind (bytes r a 24) ≡ TX
  unfolding text_kind shape little
  text_tx p = rw (mark_is, p)

  pub text_md : m ≡ 0x444d2323 → text_kind (bytes r a 24) ≡ MD
  unfolding text_kind shape little
  text_md p = rw (mark_is, p)

  pub text_ut : (m ≡ 0x58542323 → ⊥) → (m ≡ 0x444d2323 → ⊥) → text_kind (bytes r a 24) ≡ UT
  unfolding text_kind shape little
  text_ut p q = rw (mark_is, ne_eqb m 0x58542323 p, ne_eqb m 0x444d2323 q)
