-- `BlockParse::parse` meets its contract: the refusal of the block's extent, or its own bytes, which are there.
use native.Mathlib.Omega.{arith}
use mathlib.Core.Path.{◌∙◌}
use Rattle.blocks.proofs.Told.{told_on}
use Rattle.blocks.proofs.Extents.{part_inside, part_read, own_refused, own_read}
use Rattle.blocks.proofs.common.BlockParse.parse.Goals as goal

pub returns-in_err-len : goal.returns-in_err-len
returns-in_err-len g c =
    let s = g.Self.BlockParse in
    told_on _ _ c.from_residual.ensures.1 ∙ own_refused s.kind c.args.file.now c.args.offset s.fields_of c.in_err-len.ensures

pub overflow_add-at : goal.overflow_add-at
overflow_add-at g c = omega (arith, part_inside g.Self.BlockParse.kind c.args.file.now c.args.offset c.in_ok-len.ensures)

pub slice_bounds-fields-end : goal.slice_bounds-fields-end
slice_bounds-fields-end g c = omega (arith, part_inside g.Self.BlockParse.kind c.args.file.now c.args.offset c.in_ok-len.ensures)

pub fields-requires : goal.fields-requires
fields-requires g c = record {
  recording = c.args.file.now;
  at = c.args.offset;
  read = part_read g.Self.BlockParse.kind c.args.file.now c.args.offset c.in_ok-len.ensures;
}

pub returns : goal.returns
returns g c =
    let s = g.Self.BlockParse in
    own_read s.kind c.args.file.now c.args.offset s.fields_of c.in_ok-len.ensures c.fields.ensures
