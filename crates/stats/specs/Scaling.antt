-- Counts of a part of the rows. Assumes nothing.
use Rattle.std.specs.Prelude.{◌≡◌, ℕ, ◌+◌, ◌*◌, ◌/◌, ◌%◌, ◌^◌, ◌<◌, ◌≤◌, min, cond, Some, ◌==◌, ◌≢◌, nat_lt}
use Rattle.stats.specs.declared.exactness.Precision.{Precision}
use Rattle.stats.specs.declared.exactness.Precision.TheVariants.{Exact, Inexact, Absent}
use Rattle.stats.specs.Precisions.{known, AtMost}

-- a / b, rounded up: one more where a remainder is left
abbrev pub ceiling : ℕ → ℕ → ℕ
ceiling a b = a / b + min 1 (a % b)

-- an estimate, where 64 bits hold it
abbrev pub estimate : ℕ → Precision ℕ
estimate n = cond (nat_lt n (2 ^ 64)) (Inexact n) Absent

-- c of n rows, for m rows
abbrev pub part_of : ℕ → ℕ → ℕ → Precision ℕ
part_of c n m = cond (n == 0) (Inexact 0) (estimate (ceiling (c * m) n))

abbrev pub scaled : Precision ℕ → ℕ → ℕ → Precision ℕ
scaled (Exact c) n m = part_of c n m
scaled (Inexact c) n m = part_of c n m
scaled Absent n m = Absent

-- r is the least whole number that is not below c × m / n, and not above c
-- where the part has no more rows
pub record Scales (count : Precision ℕ) (n m : ℕ) (r : Precision ℕ) : Type 0 where
  pub enough : (c k : ℕ) → known count ≡ Some c → 0 < n → known r ≡ Some k → c * m ≤ k * n
  pub least : (c k j : ℕ) → known count ≡ Some c → 0 < n → known r ≡ Some k → c * m ≤ j * n → k ≤ j
  pub fits : (c : ℕ) → known count ≡ Some c → c * m < 2 ^ 64 → r ≢ Absent
  pub fewer : (c : ℕ) → known count ≡ Some c → m ≤ n → AtMost c r
