-- The first n parts, and the mark where there are more.
use Rattle.std.proofs.Common.{arith}
use Rattle.std.proofs.Math.Seq.{take_all}
use Rattle.utf8.specs.Utf8.{chunks, char_count}
use Rattle.fmt.proofs.Text.{writes_then}
use Rattle.fmt.proofs.Preview.{preview_all, preview_cut}
use Rattle.fmt.proofs.Page.put_preview.Goals as goal

pub returns-then-count_chars-n : goal.returns-then-count_chars-n
unfolding char_count
returns-then-count_chars-n c =
    rw (preview_all c.args.one c.args.n (chunks c.args.text.now) (omega arith), take_all c.args.n (chunks c.args.text.now) (omega arith))
    c.put_chunks.ensures

pub returns-else-count_chars-n : goal.returns-else-count_chars-n
unfolding char_count
returns-else-count_chars-n c =
    rw (preview_cut c.args.one c.args.n (chunks c.args.text.now) (omega arith))
    (writes_then (rw c.first_chars.ensures.chars at c.put_chunks-else-count_chars-n.ensures) c.put_bytes.ensures)
