-- Counts in IEEE 754 binary64. Assumes nothing.
use Rattle.std.specs.Prelude.{◌≡◌, ℕ, ◌^◌, ◌<◌, ◌≤◌, pos, Float}
use Rattle.std.specs.Float.Ieee.{of_int, mul, div, to_unsigned}
use Rattle.std.specs.Float.{float_round, binary64}

-- the float nearest to a count
abbrev pub float : ℕ → Float
float n = of_int binary64 (pos n)

-- b × n, then ÷ o, each rounded once; then to a whole number, halves away from zero
abbrev pub rescaled : ℕ → ℕ → ℕ → ℕ
rescaled b o n = to_unsigned 64 (float_round binary64 (div binary64 (mul binary64 (float b) (float n)) (float o)))

-- what rounding cannot undo: fewer rows have no more bytes, as many the same
pub record Rescaled (b o n r : ℕ) : Type 0 where
  pub fewer : 0 < o → b ≤ 2 ^ 39 → o ≤ 2 ^ 29 → n ≤ o → r ≤ b
  pub same : 0 < o → b ≤ 2 ^ 39 → o ≤ 2 ^ 29 → n ≡ o → r ≡ b
