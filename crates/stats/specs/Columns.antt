-- Columns: one of which nothing is known, one made Inexact, lawful ones, and
-- those inside the limits. Assumes nothing.
use Rattle.std.specs.Prelude.{Bool, true, false, ◌&&◌}
use Rattle.keys.specs.declared.Relation.{Relation}
use Rattle.keys.specs.declared.Relation.TheVariants.{Before, Equal, After, Unrelated}
use Rattle.stats.specs.declared.exactness.Precision.{Precision}
use Rattle.stats.specs.declared.exactness.Precision.TheVariants.{Exact, Inexact, Absent}
use Rattle.stats.specs.declared.columns.ColumnStatistics.{ColumnStatistics}
use Rattle.stats.specs.Precisions.{inexact, both, at_most}
use Rattle.stats.specs.Limits.{max_count, max_column_bytes}

abbrev pub unknown_column : {K : Type 0} → ColumnStatistics K
unknown_column = record {
  null_count = Absent;
  distinct_count = Absent;
  byte_size = Absent;
  min_value = Absent;
  max_value = Absent;
}

abbrev pub column_inexact : {K : Type 0} → ColumnStatistics K → ColumnStatistics K
column_inexact c = record {
  null_count = inexact c.null_count;
  distinct_count = inexact c.distinct_count;
  byte_size = inexact c.byte_size;
  min_value = inexact c.min_value;
  max_value = inexact c.max_value;
}

-- high stands so to low that low..=high is a range
abbrev pub at_or_after : Relation → Bool
at_or_after Before = false
at_or_after Equal = true
at_or_after After = true
at_or_after Unrelated = false

-- a value that is present passes the test
abbrev pub if_present : {T : Type 0} → (T → Bool) → Precision T → Bool
if_present test (Exact v) = test v
if_present test (Inexact v) = test v
if_present test Absent = true

abbrev pub lawful : {K : Type 0} → (K → K → Relation) → ColumnStatistics K → Bool
lawful relation c = if_present at_or_after (both relation c.max_value c.min_value)

abbrev pub within_limits : {K : Type 0} → ColumnStatistics K → Bool
within_limits c =
    at_most max_count c.null_count &&
    (at_most max_count c.distinct_count && at_most max_column_bytes c.byte_size)

abbrev pub sound : {K : Type 0} → (K → K → Relation) → ColumnStatistics K → Bool
sound relation c = lawful relation c && within_limits c
