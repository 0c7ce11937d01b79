-- The two laws of an estimator. Assumes nothing.
use Rattle.std.specs.Prelude.{◌≡◌, ℕ, ◌+◌, Some, None, Option}
use Rattle.stats.specs.declared.exactness.Precision.{Precision}
use Rattle.stats.specs.Precisions.{known}
use Rattle.questions.specs.declared.types.JoinType.TheVariants.{LeftSemi, RightSemi, LeftAnti, RightAnti}
use Rattle.questions.specs.declared.figures.Figure.{Figure}
use Rattle.questions.specs.Figures.{amount}
use Rattle.questions.specs.Questions.{Question, mirrored, of_type}

-- neither is a figure, or both are and add up to the known rows
abbrev pub AddUp : Option Figure → Option Figure → Precision ℕ → Type 0
AddUp None None rows = Unit {0}
AddUp None (Some b) rows = ⊥
AddUp (Some a) None rows = ⊥
AddUp (Some a) (Some b) rows = known rows ≡ Some (amount a + amount b)

-- a semi and an anti join share the kept rows
pub record Shares {K : Type 0} (figure : Question K → Option Figure) : Type 0 where
  pub left : (q : Question K) → AddUp (figure (of_type LeftSemi q)) (figure (of_type LeftAnti q)) q.left.rows
  pub right : (q : Question K) → AddUp (figure (of_type RightSemi q)) (figure (of_type RightAnti q)) q.right.rows

-- a mirrored question has the same answer
abbrev pub Mirrors : {K : Type 0} → (Question K → Option Figure) → Type 0
Mirrors {K} figure = (q : Question K) → figure (mirrored q) ≡ figure q
