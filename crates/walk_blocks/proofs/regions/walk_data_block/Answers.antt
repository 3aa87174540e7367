-- `walk_data_block` meets its contract: the mark found tells the kind.
use Rattle.std.proofs.Common.{refl, sym, ◌∙◌}
use borrow.Author.Tests.{eq-eqb, ne_eqb}
use Rattle.mdf4.specs.Kinds.{no_records}
use Rattle.mdf4.specs.Walk.{walk_data_block}
use Rattle.walk_state.specs.Within.{layout_of}
use Rattle.walk_state.proofs.Steps.{yes, no, done}
use Rattle.walk_blocks.proofs.DataBlocks.{data_records, data_signal}
use Rattle.walk_blocks.proofs.regions.walk_data_block.Goals as goal

pub returns-then-link-eq0 : goal.returns-then-link-eq0
unfolding walk_data_block
returns-then-link-eq0 c = yes _ (eq-eqb c.args.link.found 0 c.if-link-eq0.true) (done refl)

pub returns-then-is_target : goal.returns-then-is_target
unfolding walk_data_block
returns-then-is_target c =
    no _ (ne_eqb c.args.link.found 0 c.if-link-eq0.false) (yes _ (sym (c.is_target.ensures c.args.link.target) ∙ c.if-is_target.true)
    (c.record_data_block.ensures (layout_of c.args.layout) (data_records c.args.layout)))

pub returns-then-is_signal_target : goal.returns-then-is_signal_target
unfolding walk_data_block
returns-then-is_signal_target c =
    no _ (ne_eqb c.args.link.found 0 c.if-link-eq0.false) (no _ (sym (c.is_target.ensures c.args.link.target) ∙ c.if-is_target.false)
    (yes _ (sym (c.is_signal_target.ensures c.args.link.target) ∙ c.if-is_signal_target.true)
    (c.record_data_block-then-is_signal_target.ensures (no_records 0) (data_signal _ c.default.ensures))))

pub returns : goal.returns
unfolding walk_data_block
returns c =
    no _ (ne_eqb c.args.link.found 0 c.if-link-eq0.false) (no _ (sym (c.is_target.ensures c.args.link.target) ∙ c.if-is_target.false)
    (no _ (sym (c.is_signal_target.ensures c.args.link.target) ∙ c.if-is_signal_target.false) c.record_unknown_block.ensures))
