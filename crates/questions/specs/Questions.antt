-- A question, as values, and its mirror. Assumes nothing.
use Rattle.std.specs.Prelude.{ℕ, List, map}
use Rattle.stats.specs.declared.exactness.Precision.{Precision}
use Rattle.stats.specs.declared.columns.ColumnStatistics.{ColumnStatistics}
use Rattle.questions.specs.declared.types.JoinType.{JoinType}
use Rattle.questions.specs.declared.types.NullEquality.{NullEquality}
use Rattle.questions.specs.declared.types.KeyPair.{KeyPair}
use Rattle.questions.specs.declared.types.JoinSide.{JoinSide}
use Rattle.questions.specs.declared.types.JoinSide.TheVariants.{Left, Right}
use Rattle.questions.specs.declared.JoinInput.{JoinInput}
use Rattle.questions.specs.declared.JoinQuestion.{JoinQuestion}
use Rattle.questions.specs.Types.{mirror, exchanged}

-- a table that is joined
pub record Input (K : Type 0) : Type 0 where
  pub rows : Precision ℕ
  pub columns : List (ColumnStatistics K)

pub record Question (K : Type 0) : Type 0 where
  pub join_type : JoinType
  pub null_rule : NullEquality
  pub pairs : List KeyPair
  pub left : Input K
  pub right : Input K

abbrev pub input : {K : Type 0} → JoinInput K → Input K
input s = record { rows = s.num_rows; columns = s.columns.now }

-- what a question in memory asks
abbrev pub asked : {K : Type 0} → JoinQuestion K → Question K
asked q = record {
  join_type = q.join_type;
  null_rule = q.null_equality;
  pairs = q.on.now;
  left = input q.left;
  right = input q.right;
}

-- the same join, asked with its sides exchanged
abbrev pub mirrored : {K : Type 0} → Question K → Question K
mirrored q = record {
  join_type = mirror q.join_type;
  null_rule = q.null_rule;
  pairs = map exchanged q.pairs;
  left = q.right;
  right = q.left;
}

-- the same question of another type of join
abbrev pub of_type : {K : Type 0} → JoinType → Question K → Question K
of_type t q = record {
  join_type = t;
  null_rule = q.null_rule;
  pairs = q.pairs;
  left = q.left;
  right = q.right;
}

-- the input on a side, and the one on the other side
abbrev pub this_input : {K : Type 0} → JoinSide → Question K → Input K
this_input Left q = q.left
this_input Right q = q.right

abbrev pub other_input : {K : Type 0} → JoinSide → Question K → Input K
other_input Left q = q.right
other_input Right q = q.left
