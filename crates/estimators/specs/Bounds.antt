-- What every figure of our estimators keeps. Assumes nothing.
use Rattle.std.specs.Prelude.{◌≡◌, ℕ, ◌≤◌, true, Some, Option}
use Rattle.keys.specs.declared.Relation.{Relation}
use Rattle.stats.specs.Precisions.{known}
use Rattle.stats.specs.Columns.{lawful}
use Rattle.questions.specs.declared.types.JoinType.{JoinType}
use Rattle.questions.specs.declared.types.JoinType.TheVariants as join
use Rattle.questions.specs.declared.types.JoinSide.{JoinSide}
use Rattle.questions.specs.declared.types.JoinSide.TheVariants.{Left, Right}
use Rattle.questions.specs.declared.types.NullEquality.{NullEquality}
use Rattle.questions.specs.declared.figures.Figure.{Figure}
use Rattle.questions.specs.Figures.{amount}
use Rattle.questions.specs.Types.{semi_type, anti_type}
use Rattle.questions.specs.Questions.{Question, of_type, this_input}
use Rattle.estimators.specs.declared.pairs.KeyColumns.{KeyColumns}
use Rattle.estimators.specs.KeyColumns.{turned}
use Rattle.estimators.specs.Disjoint.{disjoint_pair}

abbrev pub outer_type : JoinSide → JoinType
outer_type Left = join.Left
outer_type Right = join.Right

-- a semi and an anti join have at most the kept rows, and an outer join at least
-- the rows of its outer side
pub record Bounds {K : Type 0} (figure : Question K → Option Figure) : Type 0 where
  pub semi : (s : JoinSide) (q : Question K) (f : Figure) (n : ℕ) → figure (of_type (semi_type s) q) ≡ Some f → known (this_input s q).rows ≡ Some n → amount f ≤ n
  pub anti : (s : JoinSide) (q : Question K) (f : Figure) (n : ℕ) → figure (of_type (anti_type s) q) ≡ Some f → known (this_input s q).rows ≡ Some n → amount f ≤ n
  pub outer : (s : JoinSide) (q : Question K) (f : Figure) (n : ℕ) → figure (of_type (outer_type s) q) ≡ Some f → known (this_input s q).rows ≡ Some n → n ≤ amount f

-- a pair of lawful columns is disjoint, and as exactly, seen from either side
abbrev pub Symmetric : {K : Type 0} → (K → K → Relation) → Type 0
Symmetric {K} relation = (rule : NullEquality) (k : KeyColumns K) → lawful relation k.this ≡ true → lawful relation k.other ≡ true → disjoint_pair relation rule (turned k) ≡ disjoint_pair relation rule k
