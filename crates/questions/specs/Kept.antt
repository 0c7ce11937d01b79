-- The columns that a join keeps of one child. Assumes nothing.
use Rattle.std.specs.Prelude.{List, take}
use Rattle.questions.specs.declared.types.JoinType.{JoinType}
use Rattle.questions.specs.declared.types.JoinType.TheVariants as type

-- all of the left or of the right child's, or, where it keeps both children's, the
-- empty front of the left
abbrev pub kept_part : {A : Type 0} → JoinType → List A → List A → List A
kept_part type.Inner left right = take 0 left
kept_part type.Full left right = take 0 left
kept_part type.Left left right = take 0 left
kept_part type.Right left right = take 0 left
kept_part type.LeftSemi left right = left
kept_part type.RightSemi left right = right
kept_part type.LeftAnti left right = left
kept_part type.RightAnti left right = right
kept_part type.LeftMark left right = left
kept_part type.RightMark left right = right
