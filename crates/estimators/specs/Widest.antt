-- Rows of an inner join by the widest key: the product of the rows, divided by
-- the most distinct values that a key can have. Assumes nothing.
use Rattle.std.specs.Prelude.{ℕ, ◌*◌, ◌/◌, max, cond, List, fold, Option, ◌==◌}
use Rattle.keys.specs.declared.Relation.{Relation}
use Rattle.stats.specs.declared.exactness.Precision.{Precision}
use Rattle.stats.specs.declared.exactness.Precision.TheVariants.{Exact, Inexact, Absent}
use Rattle.stats.specs.Precisions.{inexact, both}
use Rattle.stats.specs.Distincts.{max_distinct}
use Rattle.questions.specs.declared.types.JoinSide.TheVariants.{Left}
use Rattle.questions.specs.Questions.{Question}
use Rattle.estimators.specs.declared.pairs.KeyColumns.{KeyColumns}
use Rattle.estimators.specs.KeyColumns.{keys_from}
use Rattle.estimators.specs.Zeros.{zero_of, either_zero, or_else}
use Rattle.estimators.specs.Disjoint.{disjoint}

-- the larger of those that are present
abbrev pub max_present : Precision ℕ → Precision ℕ → Precision ℕ
max_present (Exact a) (Exact b) = both max (Exact a) (Exact b)
max_present (Exact a) (Inexact b) = both max (Exact a) (Inexact b)
max_present (Exact a) Absent = Exact a
max_present (Inexact a) (Exact b) = both max (Inexact a) (Exact b)
max_present (Inexact a) (Inexact b) = both max (Inexact a) (Inexact b)
max_present (Inexact a) Absent = Inexact a
max_present Absent q = q

-- the most distinct values of a pair's two columns
abbrev pub pair_width : {K : Type 0} → (K → K → Option ℕ) → Precision ℕ → Precision ℕ → KeyColumns K → Precision ℕ
pair_width size rows others k = both max (max_distinct size rows k.this) (max_distinct size others k.other)

-- W, of all pairs
abbrev pub widest : {K : Type 0} → (K → K → Option ℕ) → Precision ℕ → Precision ℕ → List (KeyColumns K) → Precision ℕ
widest size rows others ks = fold (λ w k. max_present w (pair_width size rows others k)) Absent ks

abbrev pub nonzero : Precision ℕ → Precision ℕ
nonzero (Exact n) = cond (n == 0) Absent (Exact n)
nonzero (Inexact n) = cond (n == 0) Absent (Inexact n)
nonzero Absent = Absent

-- L × R / W, rounded down
abbrev pub matching : Precision ℕ → Precision ℕ → Precision ℕ → Precision ℕ
matching l r w = inexact (both ◌/◌ (both ◌*◌ l r) (nonzero w))

-- E: 0 of a disjoint pair, or else 0 of a table without rows, or else by W
abbrev pub inner_rows : {K : Type 0} → (K → K → Relation) → (K → K → Option ℕ) → Question K → Precision ℕ
inner_rows relation size q =
    let l = q.left.rows in
    let r = q.right.rows in
    let ks = keys_from Left q in
    or_else (disjoint relation q.null_rule ks) (or_else (either_zero (zero_of l) (zero_of r)) (matching l r (widest size l r ks)))
