-- A number of any width out of its bytes, as the library's `from_le_bytes` sums them.
use Rattle.std.proofs.Common.{◌≡◌, ℕ, zero, suc, ◌+◌, ◌^◌, ◌≤◌, ◌<◌, List, length, get_or, arith, ◌∙◌, ap}
use Rattle.std.proofs.Common.{length-take, length-drop}
use Rattle.std.proofs.Math.Nat.{mul_comm}
use Rattle.std.specs.Int.{sum_through, byte_worth}
use Rattle.mdf4.specs.Bytes.{bytes, little, num}
use Rattle.mdf4.proofs.Fields.{num_zero, num_suc, num_add, bytes_bytes}

pub one_byte : (s : List ℕ) (at : ℕ) → at + 1 ≤ length s → get_or s at 0 ≡ num s at 1
one_byte s at h = omega (arith, num_suc s at 0 (omega arith), num_zero s (suc at))

summed : (s : List ℕ) (k : ℕ) → k < length s → sum_through (λ i. byte_worth i (get_or s i 0)) k ≡ num s 0 (suc k)
summed s zero h = one_byte s 0 (omega arith)
summed s (suc k) h =
    let q : suc (suc k) ≡ suc k + 1 = omega arith in
    let z : 0 + suc k ≡ suc k = omega arith in
    rw (q, num_add s 0 (suc k) 1 (omega arith), z, ← (one_byte s (suc k) (omega arith)), summed s k (omega arith), mul_comm (get_or s (suc k) 0) (256 ^ suc k))

-- the k + 1 bytes from `at` on
pub summed_at : (s : List ℕ) (at k : ℕ) {x : ℕ} → at + suc k ≤ length s → x ≡ sum_through (λ i. byte_worth i (get_or (bytes s at (suc k)) i 0)) k → x ≡ num s at (suc k)
unfolding num bytes
summed_at s at k h e =
    let z : at + 0 ≡ at = omega arith in
    e ∙ summed (bytes s at (suc k)) k (simp (length-take, length-drop) (omega arith)) ∙ ap little (rw z at (bytes_bytes s at (suc k) 0 (suc k) (omega arith)))
