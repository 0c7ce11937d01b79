-- Row counts of several tables taken together, a table's first rows, and two
-- tables joined by their keys. Assumes nothing.
use Rattle.std.specs.Prelude.{ℕ, min, List, [], ◌∷◌, ℤ, Some, None, Option}
use Rattle.stats.specs.declared.exactness.Precision.{Precision}
use Rattle.stats.specs.declared.exactness.Precision.TheVariants.{Exact, Inexact, Absent}
use Rattle.stats.specs.Precisions.{both, paired}
use Rattle.stats.specs.Totals.{total_of}
use Rattle.stats.specs.Scaling.{scaled}
use Rattle.stats.specs.Bytes.{rescaled_bytes}
use Rattle.stats.specs.Trim.{trimmed}
use Rattle.stats.specs.declared.columns.ColumnStatistics.{ColumnStatistics}
use Rattle.keys.specs.declared.kinds.Whole.{Whole}
use Rattle.questions.specs.declared.types.JoinType.{JoinType}
use Rattle.questions.specs.declared.types.NullEquality.TheVariants.{NullEqualsNothing}
use Rattle.questions.specs.declared.types.KeySide.TheVariants.{Column}
use Rattle.questions.specs.declared.figures.Figure.{Figure}
use Rattle.questions.specs.Figures.{rows_of}
use Rattle.questions.specs.Questions.{Question}
use Rattle.planner.specs.declared.tables.Part.{Part}
use Rattle.planner.specs.declared.tables.KeyedRows.{KeyedRows}

abbrev pub rows_total : List (Precision ℕ) → Precision ℕ
rows_total tables = total_of tables

-- a count scaled from rows to rows, where both are known
abbrev pub scaled_by : Precision ℕ → Precision (ℕ × ℕ) → Precision ℕ
scaled_by count (Exact (from, to)) = scaled count from to
scaled_by count (Inexact (from, to)) = scaled count from to
scaled_by count Absent = Absent

abbrev pub first_of : Precision ℕ → Precision ℕ → Precision ℕ → ℕ → Part
first_of all size empty most =
    let part = both min all (Exact most) in
    record { rows = part; bytes = rescaled_bytes size all part; nulls = scaled_by empty (paired all part) }

-- a table's rows, and its key trimmed to them
abbrev pub keyed : Precision ℕ → ColumnStatistics Whole → KeyedRows
keyed all key = record { rows = all; key = trimmed all key }

-- payers whose numbers are known to go from low to high
abbrev pub payers_of : Precision ℕ → Precision ℕ → ℤ → ℤ → ColumnStatistics Whole
payers_of nulls distincts low high = record {
  null_count = nulls;
  distinct_count = distincts;
  byte_size = Absent;
  min_value = Exact (record { 0 = low });
  max_value = Exact (record { 0 = high });
}

-- the one column of each table is its key
abbrev pub key_question : JoinType → KeyedRows → KeyedRows → Question Whole
key_question t l r = record {
  join_type = t;
  null_rule = NullEqualsNothing;
  pairs = record { left = Column 0; right = Column 0 } ∷ [];
  left = record { rows = l.rows; columns = l.key ∷ [] };
  right = record { rows = r.rows; columns = r.key ∷ [] };
}

abbrev pub rows_answered : Option Figure → Precision ℕ
rows_answered (Some f) = rows_of f
rows_answered None = Absent
