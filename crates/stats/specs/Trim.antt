-- Trim: no more nulls and distinct values than rows. Assumes nothing.
use Rattle.std.specs.Prelude.{◌≡◌, ℕ, ◌+◌, ◌-◌, ◌≤◌, true}
use Rattle.keys.specs.declared.Relation.{Relation}
use Rattle.stats.specs.declared.exactness.Precision.{Precision}
use Rattle.stats.specs.declared.exactness.Precision.TheVariants.{Exact, Inexact, Absent}
use Rattle.stats.specs.declared.columns.ColumnStatistics.{ColumnStatistics}
use Rattle.stats.specs.Precisions.{capped, or_zero}
use Rattle.stats.specs.Columns.{lawful, within_limits}

-- to n rows: nulls first, then distincts to the rows that are left
abbrev pub trimmed_to : {K : Type 0} → ℕ → ColumnStatistics K → ColumnStatistics K
trimmed_to n c =
    let nulls = capped n c.null_count in
    record {
      null_count = nulls;
      distinct_count = capped (n - or_zero nulls) c.distinct_count;
      byte_size = c.byte_size;
      min_value = c.min_value;
      max_value = c.max_value;
    }

abbrev pub trimmed : {K : Type 0} → Precision ℕ → ColumnStatistics K → ColumnStatistics K
trimmed (Exact n) c = trimmed_to n c
trimmed (Inexact n) c = trimmed_to n c
trimmed Absent c = c

-- present nulls and present distincts together are at most the known rows
abbrev pub Ceiling : {K : Type 0} → Precision ℕ → ColumnStatistics K → Type 0
Ceiling (Exact n) c = or_zero c.null_count + or_zero c.distinct_count ≤ n
Ceiling (Inexact n) c = or_zero c.null_count + or_zero c.distinct_count ≤ n
Ceiling Absent c = Unit {0}

-- what trim is for: r is c under the ceiling, and c itself where it was there
pub record Trims {K : Type 0} (relation : K → K → Relation) (rows : Precision ℕ) (c r : ColumnStatistics K) : Type 0 where
  pub ceiling : Ceiling rows r
  pub stays : Ceiling rows c → r ≡ c
  pub stays_lawful : lawful relation c ≡ true → lawful relation r ≡ true
  pub stays_within : within_limits c ≡ true → within_limits r ≡ true
