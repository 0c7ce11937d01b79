-- The worked cases of a sheet: calls, one after the other, on a blank one. Assumes
-- nothing.
use Rattle.std.specs.Prelude.{◌≡◌, ℕ, ◌+◌, ◌^◌, List, [], ◌∷◌, replicate, Some, None, Ok, Err, Option, slice_index_or}
use Rattle.keys.specs.declared.kinds.Whole.{Whole}
use Rattle.keys.specs.Kinds.{whole_relation}
use Rattle.stats.specs.declared.exactness.Precision.{Precision}
use Rattle.stats.specs.declared.exactness.Precision.TheVariants.{Exact, Inexact, Absent}
use Rattle.stats.specs.declared.columns.ColumnStatistics.{ColumnStatistics}
use Rattle.stats.specs.Columns.{unknown_column}
use Rattle.questions.specs.declared.types.JoinType.TheVariants as type
use Rattle.questions.specs.declared.types.NullEquality.TheVariants.{NullEqualsNull}
use Rattle.questions.specs.declared.types.KeySide.TheVariants.{Column}
use Rattle.questions.specs.declared.figures.Figure.TheVariants as figure
use Rattle.sheet.specs.declared.refusals.Refusal.TheVariants.{Rows}
use Rattle.sheet.specs.declared.operators.AggregateMode.TheVariants.{Single}
use Rattle.sheet.specs.Sheets.{Sheet, no_node, node_at}
use Rattle.sheet.specs.Calls.{Call, order, lay, join, limit, group}
use Rattle.sheet.specs.Steps.{step}
use Rattle.worked.specs.Cases.{counts, pair_of, widest_of}

-- memory for so many nodes and columns, and nothing on it
abbrev blank : ℕ → ℕ → Sheet Whole
blank nodes columns = record {
  head = record { count = 0; used = 0 };
  nodes = replicate nodes no_node;
  columns = replicate columns unknown_column;
}

-- the last of some calls, above Widest
abbrev after : Sheet Whole → List (Call Whole) → Sheet Whole
after s [] = s
after s (c ∷ cs) = after (step whole_relation widest_of c s).sheet cs

abbrev table : Precision ℕ → List (ColumnStatistics Whole) → Call Whole
table rows columns = order (lay rows Absent columns)

-- a table of 100 rows, and a limit of it
abbrev limited_100 : ℕ → Option ℕ → Sheet Whole
limited_100 skip fetch = after (blank 2 2) (table (Exact 100) (counts Absent Absent ∷ []) ∷ order (limit 1 skip fetch) ∷ [])

-- a semi join where null equals null: 1,000 rows with 250 nulls and 100 values, and
-- 400 rows of 50 values
abbrev semi_500 : Sheet Whole
semi_500 =
    after (blank 3 3) (table (Exact 1000) (counts (Exact 250) (Exact 100) ∷ []) ∷ table (Exact 400) (counts Absent (Exact 50) ∷ []) ∷ order (join type.LeftSemi NullEqualsNull 1 2 (pair_of 0 ∷ [])) ∷ [])

-- a table of 300 rows, grouped by columns of 12 and of 40 values
abbrev grouped_300 : Sheet Whole
grouped_300 =
    after (blank 2 4) (table (Exact 300) (counts Absent (Exact 12) ∷ counts Absent (Exact 40) ∷ []) ∷ order (group Single 1 0 1 (Column 0 ∷ Column 1 ∷ [])) ∷ [])

pub record SheetCases : Type 0 where
  -- 70 rows are left after 30 of 100, and 50 of them are fetched
  pub skip_30_fetch_50 : (node_at (limited_100 30 (Some 50)) 2).rows ≡ Exact 50
  pub skip_past_the_end : (node_at (limited_100 120 None) 2).rows ≡ Exact 0
  -- half of the kept rows stay, and half of the nulls
  pub semi_rows : (node_at semi_500 3).rows ≡ Inexact 500
  pub semi_figure : (node_at semi_500 3).figure ≡ Some (figure.Inexact 500)
  pub semi_key_nulls : (slice_index_or semi_500.columns 2 unknown_column).null_count ≡ Inexact 125
  -- the most rows that a node may have, and one more
  pub most_rows_stand : (step whole_relation widest_of (table (Exact (2 ^ 26)) []) (blank 1 0)).answer ≡ Ok 1
  pub more_rows_are_refused : (step whole_relation widest_of (table (Exact (2 ^ 26 + 1)) []) (blank 1 0)).answer ≡ Err Rows
  -- 12 × 40 groups of 300 rows are at most 300
  pub groups_at_most_rows : (node_at grouped_300 2).rows ≡ Inexact 300
