-- A line feed alone is written as a space where there is one line.
use Rattle.std.proofs.Common.{arith}
use Rattle.fmt.proofs.Preview.{char_feed, char_byte, char_long}
use Rattle.fmt.proofs.store_char.Goals.{then-one+then-b-eq10, else-one, else-one-via-then-one+else-b-eq10, else-one-via-else-one}
use Rattle.fmt.proofs.store_char.Goals as goal

pub returns-after-one : goal.returns-after-one
returns-after-one c =
    let a = c.args in
    elim c.if-one.branch [
      | then-one+then-b-eq10 w ↦ rw (char_feed a.one a.c.now (omega arith) w.if-one.true w.if-b-eq10.true, ← w.store-is) c.store.ensures
      | else-one w ↦
          elim w.else-one.branch [
            | else-one-via-then-one+else-b-eq10 w' ↦ rw (char_byte a.one a.c.now (omega arith) (λ o. w'.if-b-eq10.false), ← w.store-is) c.store.ensures
            | else-one-via-else-one w' ↦ rw (char_byte a.one a.c.now (omega arith) (λ o e. absurd (cc)), ← w.store-is) c.store.ensures
          ]
    ]

pub returns-else-c-eq1 : goal.returns-else-c-eq1
returns-else-c-eq1 c = rw (char_long c.args.one c.args.c.now (λ h. omega arith)) c.store_each.ensures
