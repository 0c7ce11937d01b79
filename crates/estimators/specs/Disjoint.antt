-- Key pairs without a value in common: such a join has no row. A pair that is
-- disjoint gives 0, with the exactness of what shows it; another gives Absent.
-- Assumes nothing.
use Rattle.std.specs.Prelude.{ℕ, Bool, true, false, cond, List, [], ◌∷◌}
use Rattle.keys.specs.declared.Relation.{Relation}
use Rattle.keys.specs.declared.Relation.TheVariants.{Before, Equal, After, Unrelated}
use Rattle.stats.specs.declared.exactness.Precision.{Precision}
use Rattle.stats.specs.declared.exactness.Precision.TheVariants.{Exact, Inexact, Absent}
use Rattle.stats.specs.declared.columns.ColumnStatistics.{ColumnStatistics}
use Rattle.stats.specs.Precisions.{both}
use Rattle.questions.specs.declared.types.NullEquality.{NullEquality}
use Rattle.questions.specs.declared.types.NullEquality.TheVariants.{NullEqualsNothing, NullEqualsNull}
use Rattle.estimators.specs.declared.pairs.KeyColumns.{KeyColumns}
use Rattle.estimators.specs.Zeros.{zero_of, either_zero, or_else}

abbrev pub is_after : Relation → Bool
is_after Before = false
is_after Equal = false
is_after After = true
is_after Unrelated = false

-- 0 where a low is after a high, Exact if both are
abbrev pub when_after : Precision Relation → Precision ℕ
when_after (Exact r) = cond (is_after r) (Exact 0) Absent
when_after (Inexact r) = cond (is_after r) (Inexact 0) Absent
when_after Absent = Absent

abbrev pub low_past_high : {K : Type 0} → (K → K → Relation) → ColumnStatistics K → ColumnStatistics K → Precision ℕ
low_past_high relation c d = when_after (both relation c.min_value d.max_value)

-- the one range lies wholly after the other
abbrev pub ranges_apart : {K : Type 0} → (K → K → Relation) → KeyColumns K → Precision ℕ
ranges_apart relation k = or_else (low_past_high relation k.this k.other) (low_past_high relation k.other k.this)

-- no null matches a null: none matches anything, or one side has none
abbrev pub no_null_match : {K : Type 0} → NullEquality → KeyColumns K → Precision ℕ
no_null_match NullEqualsNothing k = Exact 0
no_null_match NullEqualsNull k = either_zero (zero_of k.this.null_count) (zero_of k.other.null_count)

abbrev pub disjoint_pair : {K : Type 0} → (K → K → Relation) → NullEquality → KeyColumns K → Precision ℕ
disjoint_pair relation rule k = both (λ a b. 0) (ranges_apart relation k) (no_null_match rule k)

-- the first pair that is
abbrev pub disjoint : {K : Type 0} → (K → K → Relation) → NullEquality → List (KeyColumns K) → Precision ℕ
disjoint relation rule [] = Absent
disjoint relation rule (k ∷ ks) = or_else (disjoint_pair relation rule k) (disjoint relation rule ks)
