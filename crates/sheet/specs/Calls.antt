-- The calls of a sheet, as values. Assumes nothing.
use Rattle.std.specs.Prelude.{ℕ, List, [], ◌∷◌, Option}
use Rattle.stats.specs.declared.exactness.Precision.{Precision}
use Rattle.stats.specs.declared.columns.ColumnStatistics.{ColumnStatistics}
use Rattle.questions.specs.declared.types.JoinType.{JoinType}
use Rattle.questions.specs.declared.types.NullEquality.{NullEquality}
use Rattle.questions.specs.declared.types.KeySide.{KeySide}
use Rattle.questions.specs.declared.types.KeyPair.{KeyPair}
use Rattle.sheet.specs.declared.groups.Grouping.{Grouping}
use Rattle.sheet.specs.declared.joins.Join.{Join}
use Rattle.sheet.specs.declared.operators.AggregateMode.{AggregateMode}
use Rattle.sheet.specs.declared.operators.Operator.{Operator}
use Rattle.sheet.specs.declared.operators.Operator.TheVariants as op
use Rattle.sheet.specs.Shorts.{kept_as, no_key, no_pair}

-- an order adds a node
pub data Order (K : Type 0) : Type 0 where
  -- rows, bytes and columns of a table
  lay : Precision ℕ → Precision ℕ → List (ColumnStatistics K) → Order K
  -- type, null rule, left and right child, key pairs
  join : JoinType → NullEquality → ℕ → ℕ → List KeyPair → Order K
  cross : ℕ → ℕ → Order K
  -- child, rows skipped, rows fetched at most
  limit : ℕ → ℕ → Option ℕ → Order K
  union : List ℕ → Order K
  -- mode, number of sets, extra columns, child, keys
  group : AggregateMode → ℕ → ℕ → ℕ → List KeySide → Order K

-- the order that a join in memory gives
abbrev pub join_of : {K : Type 0} → Join → Order K
join_of j = join j.join_type j.null_equality j.left j.right j.on.now

-- and a grouping
abbrev pub group_of : {K : Type 0} → Grouping → Order K
group_of g = group g.mode g.sets g.extras g.child g.by.now

pub data Call (K : Type 0) : Type 0 where
  order : Order K → Call K
  -- the last node that is kept
  cut : ℕ → Call K

-- the nodes that an order reads
abbrev pub children : {K : Type 0} → Order K → List ℕ
children (lay rows bytes columns) = []
children (join t rule l r pairs) = l ∷ r ∷ []
children (cross l r) = l ∷ r ∷ []
children (limit c skip fetch) = c ∷ []
children (union cs) = cs
children (group mode sets extras c keys) = c ∷ []

-- what a node keeps of the order that made it
abbrev pub operator_of : {K : Type 0} → Order K → Operator
operator_of (lay rows bytes columns) = op.Lay
operator_of (join t rule l r pairs) = op.Join t rule l r (kept_as no_pair pairs)
operator_of (cross l r) = op.Cross l r
operator_of (limit c skip fetch) = op.Limit c skip fetch
operator_of (union cs) = op.Union (kept_as 0 cs)
operator_of (group mode sets extras c keys) = op.Group mode sets extras c (kept_as no_key keys)
