-- How many distinct values a column can have. Assumes nothing.
use Rattle.std.specs.Prelude.{◌≡◌, ℕ, ◌-◌, true, cond, is_some, Some, None, Option, nat_le}
use Rattle.stats.specs.declared.exactness.Precision.{Precision}
use Rattle.stats.specs.declared.exactness.Precision.TheVariants.{Exact, Inexact, Absent}
use Rattle.stats.specs.declared.columns.ColumnStatistics.{ColumnStatistics}
use Rattle.stats.specs.Precisions.{known, both, capped, AtMost}

-- distincts above known rows become the rows, made Inexact
abbrev pub under_rows : Precision ℕ → Precision ℕ → Precision ℕ
under_rows (Exact n) d = capped n d
under_rows (Inexact n) d = capped n d
under_rows Absent d = d

-- rows less nulls; Absent nulls count 0, and are not exact
abbrev pub not_null : Precision ℕ → Precision ℕ → Precision ℕ
not_null rows (Exact v) = both ◌-◌ rows (Exact v)
not_null rows (Inexact v) = both ◌-◌ rows (Inexact v)
not_null rows Absent = both ◌-◌ rows (Inexact 0)

-- a Precision of a count that may be none
abbrev pub if_counted : Precision (Option ℕ) → Precision ℕ
if_counted (Exact (Some n)) = Exact n
if_counted (Exact None) = Absent
if_counted (Inexact (Some n)) = Inexact n
if_counted (Inexact None) = Absent
if_counted Absent = Absent

-- the size of the range between the column's ends
abbrev pub values_in_range : {K : Type 0} → (K → K → Option ℕ) → ColumnStatistics K → Precision ℕ
values_in_range size c = if_counted (both size c.min_value c.max_value)

-- a present range replaces a count that is Absent or larger
abbrev pub tighter : Precision ℕ → Precision ℕ → Precision ℕ
tighter count Absent = count
tighter Absent (Exact n) = Exact n
tighter Absent (Inexact n) = Inexact n
tighter (Exact v) (Exact n) = cond (nat_le v n) (Exact v) (Exact n)
tighter (Exact v) (Inexact n) = cond (nat_le v n) (Exact v) (Inexact n)
tighter (Inexact v) (Exact n) = cond (nat_le v n) (Inexact v) (Exact n)
tighter (Inexact v) (Inexact n) = cond (nat_le v n) (Inexact v) (Inexact n)

-- by the column's own count, or else by its nulls and its range
abbrev pub distinct_by : Precision ℕ → Precision ℕ → Precision ℕ → Precision ℕ
distinct_by rows (Exact d) bound = under_rows rows (Exact d)
distinct_by rows (Inexact d) bound = under_rows rows (Inexact d)
distinct_by rows Absent bound = bound

abbrev pub max_distinct : {K : Type 0} → (K → K → Option ℕ) → Precision ℕ → ColumnStatistics K → Precision ℕ
max_distinct size rows c =
    distinct_by rows c.distinct_count (tighter (not_null rows c.null_count) (values_in_range size c))

-- what others rest on: at most the known rows, and present where something is
pub record Distincts {K : Type 0} (size : K → K → Option ℕ) (rows : Precision ℕ) (c : ColumnStatistics K) (r : Precision ℕ) : Type 0 where
  pub at_most_rows : (n : ℕ) → known rows ≡ Some n → AtMost n r
  pub by_distincts : is_some (known c.distinct_count) ≡ true → is_some (known r) ≡ true
  pub by_rows : is_some (known rows) ≡ true → is_some (known r) ≡ true
  pub by_range : is_some (known (values_in_range size c)) ≡ true → is_some (known r) ≡ true
