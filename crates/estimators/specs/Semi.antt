-- Rows of a semi join: the kept rows times the part that each key pair lets
-- through, in binary64, each operation rounded once. Assumes nothing.
use Rattle.std.specs.Prelude.{ℕ, min, Bool, cond, ◌&&◌, ◌||◌, List, is_some, Some, None, fold, Option, ◌==◌, nat_le, Float}
use Rattle.std.specs.Float.Ieee.{mul, div, sub, to_unsigned}
use Rattle.std.specs.Float.{ceil, float_one, float_zero, binary64}
use Rattle.std.specs.Option.{option_map}
use Rattle.keys.specs.declared.Relation.{Relation}
use Rattle.floats.specs.Counts.{float}
use Rattle.stats.specs.declared.exactness.Precision.{Precision}
use Rattle.stats.specs.declared.columns.ColumnStatistics.{ColumnStatistics}
use Rattle.stats.specs.Precisions.{known}
use Rattle.stats.specs.Distincts.{max_distinct}
use Rattle.questions.specs.declared.types.JoinSide.{JoinSide}
use Rattle.questions.specs.declared.types.NullEquality.{NullEquality}
use Rattle.questions.specs.declared.types.NullEquality.TheVariants.{NullEqualsNothing, NullEqualsNull}
use Rattle.questions.specs.Questions.{Question, this_input, other_input}
use Rattle.estimators.specs.declared.pairs.KeyColumns.{KeyColumns}
use Rattle.estimators.specs.KeyColumns.{keys_from}
use Rattle.estimators.specs.Disjoint.{disjoint}

-- distincts or both ends are present
abbrev pub has_statistics : {K : Type 0} → ColumnStatistics K → Bool
has_statistics c = is_some (known c.distinct_count) || (is_some (known c.min_value) && is_some (known c.max_value))

-- nulls of the rows
abbrev pub null_part_of : Option ℕ → ℕ → Float
null_part_of (Some nulls) rows = cond (nat_le nulls rows) (div binary64 (float nulls) (float rows)) float_zero
null_part_of None rows = float_zero

-- f, the part of the kept rows that is null, where null equals nothing
abbrev pub null_part : NullEquality → Precision ℕ → ℕ → Float
null_part NullEqualsNothing nulls rows = null_part_of (known nulls) rows
null_part NullEqualsNull nulls rows = float_zero

-- (min(kept D, other D) ÷ kept D) × (1 − f), where kept D is above 0
abbrev pub factor_by : Float → Option ℕ → Option ℕ → Option Float
factor_by f (Some d) (Some e) =
    cond (d == 0) None (Some (mul binary64 (div binary64 (float (min d e)) (float d)) (sub binary64 float_one f)))
factor_by f (Some d) None = None
factor_by f None e = None

-- the part of the kept rows that a pair lets through; none where the pair does not count
abbrev pub pair_factor : {K : Type 0} → (K → K → Option ℕ) → NullEquality → ℕ → Precision ℕ → Precision ℕ → KeyColumns K → Option Float
pair_factor size rule n kept others k =
    cond (has_statistics k.this && has_statistics k.other)
    (factor_by (null_part rule k.this.null_count n) (known (max_distinct size kept k.this)) (known (max_distinct size others k.other)))
    None

-- a pair that counts multiplies s, which starts at 1
abbrev pub times : Option Float → Option Float → Option Float
times s None = s
times None (Some f) = Some (mul binary64 float_one f)
times (Some s) (Some f) = Some (mul binary64 s f)

-- s of all pairs, none where no pair counts
abbrev pub selectivity : {K : Type 0} → (K → K → Option ℕ) → NullEquality → ℕ → Precision ℕ → Precision ℕ → List (KeyColumns K) → Option Float
selectivity size rule n kept others ks = fold (λ s k. times s (pair_factor size rule n kept others k)) None ks

-- n × s, rounded up
abbrev pub rows_kept : ℕ → Float → ℕ
rows_kept n s = to_unsigned 64 (ceil binary64 (mul binary64 (float n) s))

-- 0 of a table without rows, none where the rows are not known
abbrev pub by_others : Option ℕ → Option ℕ → Option ℕ
by_others None matched = None
by_others (Some m) matched = cond (m == 0) (Some 0) matched

-- the kept rows that have a match: none where the kept rows are not known
abbrev pub semi_of : {K : Type 0} → (K → K → Relation) → (K → K → Option ℕ) → NullEquality → Option ℕ → Precision ℕ → Precision ℕ → List (KeyColumns K) → Option ℕ
semi_of relation size rule None kept others ks = None
semi_of relation size rule (Some n) kept others ks =
    cond (is_some (known (disjoint relation rule ks)) || n == 0) (Some 0)
    (by_others (known others) (option_map (rows_kept n) (selectivity size rule n kept others ks)))

abbrev pub semi_rows : {K : Type 0} → (K → K → Relation) → (K → K → Option ℕ) → JoinSide → Question K → Option ℕ
semi_rows relation size s q =
    let kept = (this_input s q).rows in
    semi_of relation size q.null_rule (known kept) kept (other_input s q).rows (keys_from s q)
