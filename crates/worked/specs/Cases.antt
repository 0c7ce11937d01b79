-- The worked cases. Assumes nothing.
use Rattle.std.specs.Prelude.{◌≡◌, ℕ, List, [], ◌∷◌, pos, Some, None, Option}
use Rattle.keys.specs.declared.kinds.Whole.{Whole}
use Rattle.keys.specs.Kinds.{whole_relation, whole_size}
use Rattle.stats.specs.declared.exactness.Precision.{Precision}
use Rattle.stats.specs.declared.exactness.Precision.TheVariants.{Exact, Inexact, Absent}
use Rattle.stats.specs.declared.columns.ColumnStatistics.{ColumnStatistics}
use Rattle.stats.specs.Trim.{trimmed}
use Rattle.stats.specs.Scaling.{scaled}
use Rattle.stats.specs.Distincts.{max_distinct}
use Rattle.stats.specs.Bytes.{rescaled_bytes}
use Rattle.questions.specs.declared.types.JoinType.{JoinType}
use Rattle.questions.specs.declared.types.JoinType.TheVariants as join
use Rattle.questions.specs.declared.types.NullEquality.{NullEquality}
use Rattle.questions.specs.declared.types.NullEquality.TheVariants.{NullEqualsNothing, NullEqualsNull}
use Rattle.questions.specs.declared.types.KeySide.TheVariants.{Column}
use Rattle.questions.specs.declared.types.KeyPair.{KeyPair}
use Rattle.questions.specs.declared.figures.Figure.{Figure}
use Rattle.questions.specs.declared.figures.Figure.TheVariants as figure
use Rattle.questions.specs.Questions.{Question}
use Rattle.estimators.specs.Disjoint.{disjoint_pair}
use Rattle.estimators.specs.WidestFigures.{widest_figure}
use Rattle.estimators.specs.Product.{product_figure}

abbrev pub column : Precision ℕ → Precision ℕ → Precision Whole → Precision Whole → ColumnStatistics Whole
column nulls distincts low high = record {
  null_count = nulls;
  distinct_count = distincts;
  byte_size = Absent;
  min_value = low;
  max_value = high;
}

-- a column without ends
abbrev pub counts : Precision ℕ → Precision ℕ → ColumnStatistics Whole
counts nulls distincts = column nulls distincts Absent Absent

-- a column of which only the ends are known
abbrev from_to : ℕ → ℕ → ColumnStatistics Whole
from_to low high = column Absent Absent (Exact (record { 0 = pos low })) (Exact (record { 0 = pos high }))

-- a column of which nulls and ends are known
abbrev nulls_from_to : ℕ → ℕ → ℕ → ColumnStatistics Whole
nulls_from_to nulls low high = column (Exact nulls) Absent (Exact (record { 0 = pos low })) (Exact (record { 0 = pos high }))

-- a question whose pairs hold the column i on the left equal to the column i on the right
abbrev pub pair_of : ℕ → KeyPair
pair_of i = record { left = Column i; right = Column i }

abbrev question : JoinType → NullEquality → List KeyPair → Precision ℕ → List (ColumnStatistics Whole) → Precision ℕ → List (ColumnStatistics Whole) → Question Whole
question t rule pairs l left r right = record {
  join_type = t;
  null_rule = rule;
  pairs = pairs;
  left = record { rows = l; columns = left };
  right = record { rows = r; columns = right };
}

-- the same of one pair
abbrev one_pair : JoinType → NullEquality → Precision ℕ → ColumnStatistics Whole → Precision ℕ → ColumnStatistics Whole → Question Whole
one_pair t rule l left r right = question t rule (pair_of 0 ∷ []) l (left ∷ []) r (right ∷ [])

-- the same of two pairs: distincts 10 and 20, 5 and 5
abbrev two_pairs : Question Whole
two_pairs =
    question join.Inner NullEqualsNothing (pair_of 0 ∷ pair_of 1 ∷ []) (Exact 1000) (counts Absent (Exact 10) ∷ counts Absent (Exact 5) ∷ []) (Exact 1000) (counts Absent (Exact 20) ∷ counts Absent (Exact 5) ∷ [])

abbrev pub widest_of : Question Whole → Option Figure
widest_of = widest_figure whole_relation whole_size

abbrev product_of_keys : Question Whole → Option Figure
product_of_keys = product_figure whole_relation

-- 0 where the two columns are disjoint
abbrev apart : NullEquality → ColumnStatistics Whole → ColumnStatistics Whole → Precision ℕ
apart rule c d = disjoint_pair whole_relation rule (record { this = c; other = d })

pub record WorkedCases : Type 0 where
  -- 4 of 10 rows are null, so that at most 6 values can be distinct
  pub trim_takes_nulls_off : trimmed (Exact 10) (counts (Exact 4) (Exact 9)) ≡ counts (Exact 4) (Inexact 6)
  pub trim_caps_nulls : trimmed (Exact 10) (counts (Exact 12) (Exact 3)) ≡ counts (Inexact 10) (Inexact 0)
  pub trim_needs_rows : trimmed Absent (counts (Exact 12) (Exact 3)) ≡ counts (Exact 12) (Exact 3)
  -- 1 of 3 rows, for 2 rows
  pub scale_rounds_up : scaled (Exact 1) 3 2 ≡ Inexact 1
  -- a quarter of 1,000 rows is null, and so is a quarter of 500
  pub scale_of_nulls : scaled (Exact 250) 1000 500 ≡ Inexact 125
  pub scale_of_none : scaled (Exact 5) 0 2 ≡ Inexact 0
  -- a count above the rows; the rows that are not null; the values of a range
  pub distincts_above_rows : max_distinct whole_size (Exact 10) (counts Absent (Exact 90)) ≡ Inexact 10
  pub distincts_not_null : max_distinct whole_size (Exact 10) (counts (Exact 4) Absent) ≡ Exact 6
  pub distincts_of_range : max_distinct whole_size (Exact 100) (from_to 1 12) ≡ Exact 12
  -- 12.5 bytes
  pub half_goes_up : rescaled_bytes (Exact 25) (Exact 10) (Exact 5) ≡ Inexact 13
  pub same_rows_stay_exact : rescaled_bytes (Exact 25) (Exact 10) (Exact 10) ≡ Exact 25
  -- 1,000 rows of 100 values meet 400 rows of 50
  pub inner_by_widest : widest_of (one_pair join.Inner NullEqualsNothing (Exact 1000) (counts Absent (Exact 100)) (Exact 400) (counts Absent (Exact 50))) ≡ Some (figure.Inexact 4000)
  -- half of the values match, and a quarter of the kept rows is null
  pub semi_without_nulls : widest_of (one_pair join.LeftSemi NullEqualsNothing (Exact 1000) (counts (Exact 250) (Exact 100)) (Exact 400) (counts Absent (Exact 50))) ≡ Some (figure.Inexact 375)
  pub anti_with_nulls : widest_of (one_pair join.LeftAnti NullEqualsNothing (Exact 1000) (counts (Exact 250) (Exact 100)) (Exact 400) (counts Absent (Exact 50))) ≡ Some (figure.Inexact 625)
  pub semi_where_nulls_match : widest_of (one_pair join.LeftSemi NullEqualsNull (Exact 1000) (counts (Exact 250) (Exact 100)) (Exact 400) (counts Absent (Exact 50))) ≡ Some (figure.Inexact 500)
  -- 7 / 100 × 100 lies just above 7 in binary64
  pub semi_in_floats : widest_of (one_pair join.LeftSemi NullEqualsNothing (Exact 100) (counts (Exact 0) (Exact 100)) (Exact 50) (counts (Exact 0) (Exact 7))) ≡ Some (figure.Inexact 8)
  pub anti_in_floats : widest_of (one_pair join.LeftAnti NullEqualsNothing (Exact 100) (counts (Exact 0) (Exact 100)) (Exact 50) (counts (Exact 0) (Exact 7))) ≡ Some (figure.Inexact 92)
  -- 1 to 10 and 20 to 30
  pub semi_of_disjoint : widest_of (one_pair join.LeftSemi NullEqualsNothing (Exact 100) (from_to 1 10) (Exact 50) (from_to 20 30)) ≡ Some (figure.Inexact 0)
  pub nulls_can_match : apart NullEqualsNull (nulls_from_to 3 1 10) (nulls_from_to 2 20 30) ≡ Absent
  pub nulls_cannot_match : apart NullEqualsNull (nulls_from_to 3 1 10) (nulls_from_to 0 20 30) ≡ Exact 0
  pub touching_is_not_disjoint : apart NullEqualsNothing (from_to 1 10) (from_to 10 20) ≡ Absent
  pub disjoint_without_rows : widest_of (one_pair join.Inner NullEqualsNothing Absent (from_to 1 10) (Exact 50) (from_to 20 30)) ≡ Some (figure.Exact 0)
  pub left_without_rows : widest_of (one_pair join.Left NullEqualsNothing Absent (from_to 1 10) (Exact 50) (from_to 20 30)) ≡ None
  -- the widest key alone, or the product of all keys
  pub two_keys_by_widest : widest_of two_pairs ≡ Some (figure.Inexact 50000)
  pub two_keys_by_product : product_of_keys two_pairs ≡ Some (figure.Inexact 10000)
