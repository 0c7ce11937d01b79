-- The columns that a question's key pairs name. Assumes nothing.
use Rattle.std.specs.Prelude.{List, map, slice_index_or}
use Rattle.stats.specs.declared.columns.ColumnStatistics.{ColumnStatistics}
use Rattle.stats.specs.Columns.{unknown_column}
use Rattle.questions.specs.declared.types.JoinSide.{JoinSide}
use Rattle.questions.specs.declared.types.JoinSide.TheVariants.{Left, Right}
use Rattle.questions.specs.declared.types.KeySide.{KeySide}
use Rattle.questions.specs.declared.types.KeySide.TheVariants.{Column, Expression}
use Rattle.questions.specs.declared.types.KeyPair.{KeyPair}
use Rattle.questions.specs.Questions.{Question}
use Rattle.estimators.specs.declared.pairs.KeyColumns.{KeyColumns}

abbrev pub turned : {K : Type 0} → KeyColumns K → KeyColumns K
turned k = record { this = k.other; other = k.this }

-- the columns of a pair; both are unknown if one side is an expression
abbrev pub columns_at : {K : Type 0} → List (ColumnStatistics K) → List (ColumnStatistics K) → KeySide → KeySide → KeyColumns K
columns_at left right (Column i) (Column j) = record { this = slice_index_or left i unknown_column; other = slice_index_or right j unknown_column }
columns_at left right (Column i) Expression = record { this = unknown_column; other = unknown_column }
columns_at left right Expression k = record { this = unknown_column; other = unknown_column }

-- seen from a side: its own column is `this`
abbrev pub columns_from : {K : Type 0} → JoinSide → Question K → KeyPair → KeyColumns K
columns_from Left q p = columns_at q.left.columns q.right.columns p.left p.right
columns_from Right q p = turned (columns_at q.left.columns q.right.columns p.left p.right)

-- of all pairs, in their order
abbrev pub keys_from : {K : Type 0} → JoinSide → Question K → List (KeyColumns K)
keys_from s q = map (columns_from s q) q.pairs
