-- Join types by number and mirror; key pairs exchanged. Assumes nothing.
use Rattle.std.specs.Prelude.{ℕ, Bool, true, ◌&&◌, Some, None, Option, nat_lt}
use Rattle.questions.specs.declared.types.JoinType.{JoinType}
use Rattle.questions.specs.declared.types.JoinType.TheVariants.{Inner, Full, Left, Right, LeftSemi, RightSemi, LeftAnti, RightAnti, LeftMark, RightMark}
use Rattle.questions.specs.declared.types.JoinSide.{JoinSide}
use Rattle.questions.specs.declared.types.JoinSide.TheVariants as side
use Rattle.questions.specs.declared.types.KeySide.{KeySide}
use Rattle.questions.specs.declared.types.KeySide.TheVariants as key
use Rattle.questions.specs.declared.types.KeyPair.{KeyPair}

abbrev pub type_number : JoinType → ℕ
type_number Inner = 0
type_number Full = 1
type_number Left = 2
type_number Right = 3
type_number LeftSemi = 4
type_number RightSemi = 5
type_number LeftAnti = 6
type_number RightAnti = 7
type_number LeftMark = 8
type_number RightMark = 9

-- the same join with its sides exchanged: from 2 on, the number's lowest bit flipped
abbrev pub mirror : JoinType → JoinType
mirror Inner = Inner
mirror Full = Full
mirror Left = Right
mirror Right = Left
mirror LeftSemi = RightSemi
mirror RightSemi = LeftSemi
mirror LeftAnti = RightAnti
mirror RightAnti = LeftAnti
mirror LeftMark = RightMark
mirror RightMark = LeftMark

-- the semi and the anti join that keep a side
abbrev pub semi_type : JoinSide → JoinType
semi_type side.Left = LeftSemi
semi_type side.Right = RightSemi

abbrev pub anti_type : JoinSide → JoinType
anti_type side.Left = LeftAnti
anti_type side.Right = RightAnti

abbrev pub opposite : JoinSide → JoinSide
opposite side.Left = side.Right
opposite side.Right = side.Left

abbrev pub exchanged : KeyPair → KeyPair
exchanged p = record { left = p.right; right = p.left }

-- the column that a key is, if it is one
abbrev pub key_column : KeySide → Option ℕ
key_column (key.Column i) = Some i
key_column key.Expression = None

-- a key that is a column of a table so wide, or an expression
abbrev pub key_inside : ℕ → KeySide → Bool
key_inside width (key.Column i) = nat_lt i width
key_inside width key.Expression = true

abbrev pub pair_inside : ℕ → ℕ → KeyPair → Bool
pair_inside left right p = key_inside left p.left && key_inside right p.right

-- the most pairs of a join, and keys of a grouping
abbrev pub max_pairs : ℕ
max_pairs = 16
