-- `put_text` meets its contract: the listing, text by text.
use Rattle.std.proofs.Common.{rules}
use Rattle.fmt.proofs.Text.{writes_then}
use Rattle.to_text.proofs.Lines.{text_shown, shown}
use Rattle.to_text.proofs.put_text.Goals as goal

pub returns : goal.returns
returns c = λ y h.
    let head = writes_then (writes_then c.put_head.ensures c.put_rows.ensures) c.put_gaps.ensures in
    let wrote = writes_then (writes_then head c.put_bytes.ensures) c.put_all_links.ensures in
    let same = wrote.same_reference in
    rw (text_shown c.args.file.now y h) (shown c.new-page.ensures.out c.new-page.ensures.at wrote (search rules))
