-- `put_block` meets its contract.
use Rattle.std.proofs.Common.{◌≡◌, sym, ap, arith, rules}
use denote.Enum.Bare.{same_true}
use Rattle.mdf4.specs.Act as spec
use Rattle.mdf4.specs.Reads.{listed_len}
use Rattle.mdf4.proofs.Fields.{read_len_is}
use Rattle.blocks.specs.contracts.kind.Kind.{the_type}
use Rattle.blocks.specs.declared.kind.Kind.TheVariants.{CN}
use Rattle.blocks.specs.Kind.{kind_named}
use Rattle.tables.specs.Rows.{row_of}
use Rattle.tables.proofs.Gapping.{pushes_then}
use Rattle.scratch_rows.proofs.Lengths.{row_whole, not_channel}
use Rattle.scratch_rows.proofs.NameCovers.{cover_channel, cover_other}
use Rattle.scratch_rows.proofs.put_block.Goals as goal

pub read_len-requires : goal.read_len-requires
unfolding row_of
read_len-requires c = c.requires.1

pub overflow_add-behind : goal.overflow_add-behind
overflow_add-behind c = omega (arith, c.read_len.ensures, row_whole c.args.file.now c.args.block.now c.requires.1)

pub read_u64-requires : goal.read_u64-requires
unfolding listed_len
read_u64-requires c =
    let a = c.args in
    let e : a.block.now.kind ≡ CN = same_true the_type (search rules) _ _ (sym c.if-eq.ensures) in
    let w = rw e at (row_whole a.file.now a.block.now c.requires.1) in
    omega (arith, read_len_is a.file.now spec.CN a.block.now.offset)

pub overflow_add-block : goal.overflow_add-block
overflow_add-block c = let e = read_u64-requires c in omega arith

pub returns-then-eq-clause-pushed : goal.returns-then-eq-clause-pushed
returns-then-eq-clause-pushed c =
    let a = c.args in
    let e : a.block.now.kind ≡ CN = same_true the_type (search rules) _ _ (sym c.if-eq.ensures) in
    rw (cover_channel a.file.now a.block.now c.read_len.ensures c.max.ensures (ap kind_named e) c.read_u64.ensures)
    (pushes_then c.push.ensures.pushed c.put_name.ensures.pushed)

pub returns-else-eq-clause-pushed : goal.returns-else-eq-clause-pushed
returns-else-eq-clause-pushed c =
    let a = c.args in
    let n = not_channel a.block.now.kind (λ e. let z = rw e at c.if-eq.ensures in cc) in
    rw (cover_other a.file.now a.block.now c.read_len.ensures c.max.ensures n) c.push.ensures.pushed
