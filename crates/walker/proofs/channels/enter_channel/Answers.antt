-- `enter_channel` meets its contract: the first refusal, or the next address.
use mathlib.Core.Path.{refl}
use Rattle.walk_state.proofs.Steps.{handed, then, next, halt, halt_next, done, led}
use Rattle.walker.proofs.ChannelSteps.{channel_entered}
use Rattle.walker.proofs.channels.enter_channel.Goals as goal

pub returns-in_err-channel : goal.returns-in_err-channel
returns-in_err-channel c = channel_entered _ (handed _ c.from_residual.ensures.1 (halt _ c.in_err-channel.ensures))

pub returns-in_err-walk_channel_texts : goal.returns-in_err-walk_channel_texts
returns-in_err-walk_channel_texts c =
    handed _ c.from_residual-in_err-walk_channel_texts.ensures.1
    (channel_entered _ (then _ c.in_ok-channel.ensures (halt_next _ (halt_next _ c.in_err-walk_channel_texts.ensures))))

pub returns-in_err-walk_channel_data : goal.returns-in_err-walk_channel_data
returns-in_err-walk_channel_data c =
    handed _ c.from_residual-in_err-walk_channel_data.ensures.1
    (channel_entered _ (then _ c.in_ok-channel.ensures (halt_next _ (next c.in_ok-walk_channel_texts.ensures (led _ _ c.follow.ensures c.in_err-walk_channel_data.ensures)))))

pub returns : goal.returns
returns c =
    channel_entered _
    (then _ c.in_ok-channel.ensures
    (next (next c.in_ok-walk_channel_texts.ensures (led _ _ c.follow.ensures c.in_ok-walk_channel_data.ensures)) (led _ _ c.follow-2.ensures (done refl))))
