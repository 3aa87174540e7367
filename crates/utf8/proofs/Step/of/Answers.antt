-- Each return is one law of `step_of` by what the first byte asks (proofs/Steps.antt).
use Rattle.std.proofs.Common.{arith}
use Rattle.std.proofs.lemmas.List.{take_rest}
use Rattle.utf8.proofs.Rules.{tests}
use Rattle.utf8.proofs.Steps.{step_ascii, step_never, step_cut, step_off, step_whole, step_short}
use Rattle.utf8.proofs.Step.of.Goals.{then-text-lt2-via-then-text-lt2, then-text-lt2-via-else-text-lt2+then-text-lo, then-text-lt2-via-else-text-lt2+else-text-lo+then-hi-text}
use Rattle.utf8.proofs.Step.of.Goals as goal

pub returns-in-Ascii : goal.returns-in-Ascii
returns-in-Ascii c = step_ascii c.args.text.now c.requires c.lead_of.result c.lead_of.ensures c.in-Ascii.is

pub returns-in-Never : goal.returns-in-Never
returns-in-Never c = step_never c.args.text.now c.requires c.lead_of.result c.lead_of.ensures c.in-Never.is

pub returns-then-text-lt2 : goal.returns-then-text-lt2
returns-then-text-lt2 c =
    let t = c.args.text.now in
    let l = c.lead_of in
    elim c.then-text-lt2.branch [
      | then-text-lt2-via-then-text-lt2 w ↦ step_cut t c.requires l.result l.ensures c.in-Second.is (omega arith)
      | then-text-lt2-via-else-text-lt2+then-text-lo w ↦ step_off t c.requires l.result l.ensures c.in-Second.is (omega arith) (search tests)
      | then-text-lt2-via-else-text-lt2+else-text-lo+then-hi-text w ↦ step_off t c.requires l.result l.ensures c.in-Second.is (omega arith) (search tests)
    ]

pub returns-then-n-more : goal.returns-then-n-more
returns-then-n-more c =
    let l = c.lead_of in
    step_whole c.args.text.now c.requires l.result l.ensures c.in-Second.is (omega arith) (search tests) c.trail-n.result
    (rw take_rest at c.trail-n.ensures.count) c.if-n-more.true

pub returns-else-n-more : goal.returns-else-n-more
returns-else-n-more c =
    let l = c.lead_of in
    step_short c.args.text.now c.requires l.result l.ensures c.in-Second.is (omega arith) (search tests) c.trail-n.result
    (rw take_rest at c.trail-n.ensures.count) c.if-n-more.false
