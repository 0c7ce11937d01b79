-- What Product answers: the product of the rows, divided by the product of the
-- larger distinct counts of all pairs. Assumes nothing.
use Rattle.std.specs.Prelude.{ℕ, ◌+◌, ◌-◌, ◌*◌, ◌/◌, ◌<◌, min, max, cond, List, Some, None, fold, Option, ◌==◌}
use Rattle.keys.specs.declared.Relation.{Relation}
use Rattle.stats.specs.Precisions.{known}
use Rattle.stats.specs.Products as counts
use Rattle.questions.specs.declared.types.JoinType.{JoinType}
use Rattle.questions.specs.declared.types.JoinType.TheVariants as join
use Rattle.questions.specs.declared.types.JoinSide.TheVariants.{Left}
use Rattle.questions.specs.declared.figures.Figure.{Figure}
use Rattle.questions.specs.declared.figures.Figure.TheVariants.{Inexact}
use Rattle.questions.specs.Questions.{Question}
use Rattle.estimators.specs.declared.pairs.KeyColumns.{KeyColumns}
use Rattle.estimators.specs.KeyColumns.{keys_from}
use Rattle.estimators.specs.Answerable.{answerable}

-- the larger of two distinct counts, if both are known and above 0
abbrev pub larger_distinct : Option ℕ → Option ℕ → Option ℕ
larger_distinct (Some a) (Some b) = cond (a == 0) None (cond (b == 0) None (Some (max a b)))
larger_distinct (Some a) None = None
larger_distinct None o = None

-- a product that stops at 2 ^ 64 - 1
abbrev pub stopping_product : Option ℕ → Option ℕ → Option ℕ
stopping_product p d = counts.stopping_product p d

-- P; none where a pair lacks a count, 1 for no pairs
abbrev pub divisor : {K : Type 0} → List (KeyColumns K) → Option ℕ
divisor ks = fold (λ p k. stopping_product p (larger_distinct (known k.this.distinct_count) (known k.other.distinct_count))) (Some 1) ks

-- a divisor is never 0
abbrev pub Positive : Option ℕ → Type 0
Positive None = Unit {0}
Positive (Some p) = 0 < p

-- J
abbrev pub joined_by : ℕ → ℕ → Option ℕ → ℕ
joined_by l r None = l * r
joined_by l r (Some p) = l * r / p

abbrev pub product_by : JoinType → ℕ → ℕ → ℕ → Option Figure
product_by join.Inner l r j = Some (Inexact j)
product_by join.Full l r j = Some (Inexact (max j (l + r - j)))
product_by join.Left l r j = Some (Inexact (max j l))
product_by join.Right l r j = Some (Inexact (max j r))
product_by join.LeftSemi l r j = Some (Inexact (min j l))
product_by join.RightSemi l r j = Some (Inexact (min j r))
product_by join.LeftAnti l r j = Some (Inexact (l - min j l))
product_by join.RightAnti l r j = Some (Inexact (r - min j r))
product_by join.LeftMark l r j = None
product_by join.RightMark l r j = None

-- none unless both rows are known
abbrev pub product_of : JoinType → Option ℕ → Option ℕ → Option ℕ → Option Figure
product_of t (Some l) (Some r) p = product_by t l r (joined_by l r p)
product_of t (Some l) None p = None
product_of t None r p = None

abbrev pub product_figure : {K : Type 0} → (K → K → Relation) → Question K → Option Figure
product_figure relation q =
    cond (answerable relation q) (product_of q.join_type (known q.left.rows) (known q.right.rows) (divisor (keys_from Left q))) None
