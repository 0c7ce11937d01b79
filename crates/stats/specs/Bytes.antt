-- Bytes of a table whose rows have changed. Assumes nothing.
use Rattle.std.specs.Prelude.{◌≡◌, ℕ, ◌^◌, ◌≤◌, cond, Some, ◌==◌}
use Rattle.floats.specs.Counts.{rescaled}
use Rattle.stats.specs.declared.exactness.Precision.{Precision}
use Rattle.stats.specs.declared.exactness.Precision.TheVariants.{Exact, Inexact, Absent}
use Rattle.stats.specs.Precisions.{known, paired, AtMost}

-- b bytes of o rows for n rows: Exact only if all three are, and n is o
abbrev pub rescaled_by : Precision ℕ → Precision (ℕ × (ℕ × ℕ)) → Precision ℕ
rescaled_by bytes (Exact (b, (o, n))) =
    cond (o == 0) bytes (cond (n == o) (Exact (rescaled b o n)) (Inexact (rescaled b o n)))
rescaled_by bytes (Inexact (b, (o, n))) = cond (o == 0) bytes (Inexact (rescaled b o n))
rescaled_by bytes Absent = bytes

abbrev pub rescaled_bytes : Precision ℕ → Precision ℕ → Precision ℕ → Precision ℕ
rescaled_bytes bytes old new = rescaled_by bytes (paired bytes (paired old new))

-- b, o and n are what is known, and no larger than the sums of a union
pub record Usual (bytes old new : Precision ℕ) (b o n : ℕ) : Type 0 where
  pub bytes_are : known bytes ≡ Some b
  pub old_are : known old ≡ Some o
  pub new_are : known new ≡ Some n
  pub bytes_few : b ≤ 2 ^ 39
  pub old_few : o ≤ 2 ^ 29
  pub new_few : n ≤ 2 ^ 29

-- what rounding cannot undo: fewer rows have no more bytes, as many the same
pub record Rescales (bytes old new r : Precision ℕ) : Type 0 where
  pub fewer : (b o n : ℕ) → Usual bytes old new b o n → n ≤ o → AtMost b r
  pub same : (b o n : ℕ) → Usual bytes old new b o n → n ≡ o → known r ≡ Some b
