-- The names of the join types, as text. Assumes nothing.
use Rattle.std.specs.Prelude.{ℕ, List, codes}
use Rattle.questions.specs.declared.types.JoinType.{JoinType}
use Rattle.questions.specs.declared.types.JoinType.TheVariants.{Inner, Full, Left, Right, LeftSemi, RightSemi, LeftAnti, RightAnti, LeftMark, RightMark}

abbrev pub join_name : JoinType → List ℕ
join_name Inner = codes "inner join"
join_name Full = codes "full join"
join_name Left = codes "left join"
join_name Right = codes "right join"
join_name LeftSemi = codes "left semi join"
join_name RightSemi = codes "right semi join"
join_name LeftAnti = codes "left anti join"
join_name RightAnti = codes "right anti join"
join_name LeftMark = codes "left mark join"
join_name RightMark = codes "right mark join"
