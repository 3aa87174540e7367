-- `walk_channel_data` meets its contract: a channel of another type, or the answer of its data region.
use mathlib.Core.Path.{refl}
use borrow.Author.Tests.{eq-eqb, ne_eqb}
use Rattle.walk_state.proofs.Steps.{yes, no, done}
use Rattle.walker.proofs.ChannelSteps.{data_of}
use Rattle.walker.proofs.channels.walk_channel_data.Goals as goal

pub returns-then-channel-ne-VLSD : goal.returns-then-channel-ne-VLSD
returns-then-channel-ne-VLSD c = data_of _ (no _ (ne_eqb c.args.channel.channel_type 1 c.if-channel-ne-VLSD.true) (done refl))

pub returns : goal.returns
returns c =
    let e = c.default.ensures in
    let d = rw (e.0, e.1.0, e.1.1, c.make_link-link.ensures) at c.walk_data_region.ensures in
    data_of _ (yes _ (eq-eqb c.args.channel.channel_type 1 c.if-channel-ne-VLSD.false) d)
