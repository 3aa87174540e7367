-- How many bytes are read of a block: what its header tells, or a number of its kind's.
use Rattle.std.specs.Prelude.{◌≡◌, true, List, ℕ, ◌-◌, min, leb}
use Rattle.mdf4.specs.Act.{Out, ok, refusal, and_then, check, Kind}
use Rattle.mdf4.specs.Kinds.{shape, header_ok, rest, u64_max}

-- n, or refusal 1 unless n bytes stand between a and the end at len
unfoldable pub need_or : ℕ → ℕ → ℕ → Out ℕ
need_or len a n = and_then (check (leb n (len - a)) (refusal 1 a (min n u64_max) (len - a))) (λ u. ok n)

-- of a kind with the mark m, n bytes are read whatever the header says
pub record IsFixed (k : Kind) (n m : ℕ) : Type 0 where
  pub mark : (shape k).mark ≡ m
  pub tested : (shape k).tested ≡ true
  pub least : (shape k).min_len ≡ n
  pub need : (h : List ℕ) → (shape k).need h ≡ n
  pub sound : (h : List ℕ) → header_ok k h ≡ true
  pub none : (w : List ℕ) → rest k w ≡ 0
