-- The own bytes of a block that can be read: its fields are those of them, and what is said of it is said of them.
use Rattle.std.proofs.Common.{◌≡◌, ap, ◌∙◌, ℕ, ◌+◌, ◌≤◌, cond, List, [], length}
use Rattle.mdf4.specs.Bytes.{bytes}
use Rattle.mdf4.specs.Act.{ok, Kind, CN}
use Rattle.mdf4.specs.Kinds.{is, read_len, read_block, name_link}
use Rattle.mdf4.specs.Reads.{links_at}
use Rattle.mdf4.specs.Describe.{describe_of, extra_of, block_bytes, row_name, name_bytes, describe, extra_line}
use Rattle.mdf4.proofs.Reading.{read_whole}
use Rattle.tables.specs.declared.BlockInfo.{BlockInfo}
use Rattle.tables.specs.Rows.{row_of}
use Rattle.blocks.specs.TextBlock.{TextAt}
use Rattle.describe.specs.Info.{OfKind}

abbrev pub own : List ℕ → BlockInfo → List ℕ
own r b = block_bytes r (row_of b)

module _ {k : Kind} {r : List ℕ} {b : BlockInfo} (o : OfKind k r b) where
  pub own_are : own r b ≡ bytes r b.offset (read_len k r b.offset)
  unfolding block_bytes row_of
  own_are = rw o.kind

  pub own_read : read_block k r b.offset ≡ ok (own r b)
  unfolding row_of
  own_read = let e : read_block k r b.offset ≡ ok (bytes r b.offset (read_len k r b.offset)) = rw o.kind at o.readable in rw own_are e

  -- all that is read of it is there
  pub whole : b.offset + read_len k r b.offset ≤ length r
  whole = read_whole k r b.offset (own r b) own_read

  pub described : describe r (row_of b) ≡ describe_of k (row_of b) (own r b) (cond (is k CN) (name_bytes r (name_link (links_at r k b.offset))) [])
  unfolding describe row_name row_of
  described = rw o.kind

  pub lined : extra_line r (row_of b) ≡ extra_of k (row_of b) (own r b)
  unfolding extra_line row_of
  lined = rw o.kind

  pub text_own : {text : List ℕ → List ℕ} {len : ℕ} {t : List ℕ} → TextAt k text r b.offset len t → t ≡ text (own r b)
  text_own {text} x = let e : x.own ≡ own r b = (let p = x.read in let q = own_read in cc) in x.is ∙ ap text e
