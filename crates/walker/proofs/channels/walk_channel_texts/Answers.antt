-- `walk_channel_texts` meets its contract: the first refusal, or the comment's answer.
use Rattle.walk_state.proofs.Steps.{handed, next, halt_next, led}
use Rattle.walker.proofs.channels.walk_channel_texts.Goals as goal

pub returns-in_err-walk_text_like : goal.returns-in_err-walk_text_like
returns-in_err-walk_text_like c =
    handed _ c.from_residual.ensures.1 (halt_next _ (halt_next _ (halt_next _ (halt_next _ (led _ _ c.follow.ensures c.in_err-walk_text_like.ensures)))))

pub returns-in_err-walk_source : goal.returns-in_err-walk_source
returns-in_err-walk_source c =
    handed _ c.from_residual-in_err-walk_source.ensures.1
    (halt_next _ (halt_next _ (halt_next _ (next (led _ _ c.follow.ensures c.in_ok-walk_text_like.ensures) (led _ _ c.follow-2.ensures c.in_err-walk_source.ensures)))))

pub returns-in_err-walk_channel_conversion : goal.returns-in_err-walk_channel_conversion
returns-in_err-walk_channel_conversion c =
    handed _ c.from_residual-in_err-walk_channel_conversion.ensures.1
    (halt_next _ (halt_next _ (next (next (led _ _ c.follow.ensures c.in_ok-walk_text_like.ensures) (led _ _ c.follow-2.ensures c.in_ok-walk_source.ensures)) c.in_err-walk_channel_conversion.ensures)))

pub returns-in_err-walk_text_like-2 : goal.returns-in_err-walk_text_like-2
returns-in_err-walk_text_like-2 c =
    handed _ c.from_residual-in_err-walk_text_like-2.ensures.1
    (halt_next _ (next (next (next (led _ _ c.follow.ensures c.in_ok-walk_text_like.ensures) (led _ _ c.follow-2.ensures c.in_ok-walk_source.ensures)) c.in_ok-walk_channel_conversion.ensures) (led _ _ c.follow-3.ensures c.in_err-walk_text_like-2.ensures)))

pub returns : goal.returns
returns c =
    next (next (next (next (led _ _ c.follow.ensures c.in_ok-walk_text_like.ensures) (led _ _ c.follow-2.ensures c.in_ok-walk_source.ensures)) c.in_ok-walk_channel_conversion.ensures) (led _ _ c.follow-3.ensures c.in_ok-walk_text_like-2.ensures))
    (led _ _ c.follow-4.ensures c.walk_text_like-3.ensures)
