-- A block of a chain: its entering, and its answer, the address of the next one, 0 at the end.
use Rattle.std.specs.Prelude.{List, ℕ}
use Rattle.mdf4.specs.Act.{Kind, Act, pure, ◌>>=◌}
use Rattle.mdf4.specs.Kinds.{RecordLayout}
use Rattle.mdf4.specs.Walk.{enter}

-- a block is read and listed: the fields f of its own bytes
unfoldable pub entered : {A : Type 0} → Kind → ℕ → RecordLayout → (List ℕ → A) → Act A
entered k a h f = enter k a h >>= λ b. pure (f b.0)

-- the answer of a channel or a data group, which hands nothing on
abbrev pub next_at : ℕ → ℕ × Unit {0}
next_at n = (n, tt)
