-- What Widest answers. Assumes nothing.
use Rattle.std.specs.Prelude.{ℕ, ◌-◌, max, cond, None, Option}
use Rattle.std.specs.Option.{option_map}
use Rattle.keys.specs.declared.Relation.{Relation}
use Rattle.stats.specs.Precisions.{both, or_zero, total}
use Rattle.questions.specs.declared.types.JoinType.{JoinType}
use Rattle.questions.specs.declared.types.JoinType.TheVariants as join
use Rattle.questions.specs.declared.types.JoinSide.{JoinSide}
use Rattle.questions.specs.declared.types.JoinSide.TheVariants.{Left, Right}
use Rattle.questions.specs.declared.figures.Figure.{Figure}
use Rattle.questions.specs.declared.figures.Figure.TheVariants.{Inexact}
use Rattle.questions.specs.Figures.{figure_of}
use Rattle.questions.specs.Questions.{Question, this_input}
use Rattle.estimators.specs.Answerable.{answerable}
use Rattle.estimators.specs.Widest.{inner_rows}
use Rattle.estimators.specs.Semi.{semi_rows}

module _ {K : Type 0} (relation : K → K → Relation) (size : K → K → Option ℕ) (q : Question K) where
  -- an outer join has every row of its outer sides
  abbrev pub at_least : JoinSide → Option Figure
  at_least s = figure_of (both max (inner_rows relation size q) (this_input s q).rows)

  abbrev pub full_figure : Option Figure
  full_figure =
      let e = inner_rows relation size q in
      figure_of (both ◌-◌ (total (both max e q.left.rows) (both max e q.right.rows)) e)

  -- the kept rows with a match, and those without
  abbrev pub semi_figure : JoinSide → Option Figure
  semi_figure s = option_map Inexact (semi_rows relation size s q)

  abbrev pub anti_figure : JoinSide → Option Figure
  anti_figure s = option_map (λ n. Inexact (or_zero (this_input s q).rows - n)) (semi_rows relation size s q)

  abbrev pub widest_by : JoinType → Option Figure
  widest_by join.Inner = figure_of (inner_rows relation size q)
  widest_by join.Full = full_figure
  widest_by join.Left = at_least Left
  widest_by join.Right = at_least Right
  widest_by join.LeftSemi = semi_figure Left
  widest_by join.RightSemi = semi_figure Right
  widest_by join.LeftAnti = anti_figure Left
  widest_by join.RightAnti = anti_figure Right
  widest_by join.LeftMark = None
  widest_by join.RightMark = None

  abbrev pub widest_figure : Option Figure
  widest_figure = cond (answerable relation q) (widest_by q.join_type) None
