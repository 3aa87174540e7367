-- All parts are characters.
use Rattle.std.proofs.Common.{rules, ◌∙◌, refl}
use Rattle.std.proofs.lemmas.Iterator.Consumers.{YieldsList-from_first}
use Rattle.std.proofs.lemmas.Iterator.Search.{all_from_yields_List}
use Rattle.utf8.specs.declared.Chunk.TheVariants.{Char, Junk}
use Rattle.utf8.specs.Utf8.{chunks, valid_utf8}
use Rattle.utf8.specs.Parts.{held, left}
use Rattle.utf8.proofs.Decoding.{is_char, all_chars}
use Rattle.utf8.proofs.is_utf8.Goals as goal

pub returns : goal.returns
unfolding valid_utf8
returns c =
    all_from_yields_List is_char c.all.new.self _ c.all.result c.all.ensures.ran (YieldsList-from_first held left {s = record { rest = c.args.text }} (chunks c.args.text.now) refl)
    (λ x b q k. elim x [ Char s ↦ search rules | Junk s ↦ search rules ])
    ∙ all_chars _
