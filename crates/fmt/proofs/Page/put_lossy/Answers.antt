-- What is well-formed is written as it stands, else part by part.
use Rattle.utf8.specs.Utf8.{lossy}
use Rattle.utf8.proofs.Decoding.{lossy_whole}
use Rattle.std.proofs.Common.{sym, ◌∙◌}
use Rattle.fmt.proofs.Page.put_lossy.Goals as goal

pub returns-then-is_utf8 : goal.returns-then-is_utf8
returns-then-is_utf8 c = rw (lossy_whole c.args.text.now (sym c.is_utf8.ensures ∙ c.if-is_utf8.true)) c.put_bytes.ensures

pub returns-else-is_utf8 : goal.returns-else-is_utf8
unfolding lossy
returns-else-is_utf8 c = c.put_chunks.ensures
