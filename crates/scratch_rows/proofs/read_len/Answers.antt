-- `read_len` meets its contract: of a block that can be read the header is there.
use Rattle.std.proofs.Common.{arith}
use Rattle.mdf4.proofs.Reading.{read_whole}
use Rattle.blocks.specs.Kind.{kind_named}
use Rattle.scratch_rows.proofs.Lengths.{read_least}
use Rattle.scratch_rows.proofs.read_len.Goals as goal

pub read_u64-requires : goal.read_u64-requires
read_u64-requires c =
    let a = c.args in
    let k = kind_named a.kind in
    omega (arith, read_whole k a.file.now a.offset _ c.requires, read_least k a.file.now a.offset)

pub overflow_add-offset : goal.overflow_add-offset
overflow_add-offset c = let e = read_u64-requires c in omega arith
