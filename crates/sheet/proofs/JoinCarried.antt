-- What a join makes, from its children's nodes and the figure that was asked for.
-- Assumes nothing.
use Rattle.std.proofs.Common.{◌≡◌, ℕ, List, Some, None, Option, sym, refl, ap, ◌∙◌}
use Rattle.stats.specs.declared.exactness.Precision.{Precision}
use Rattle.stats.specs.declared.columns.ColumnStatistics.{ColumnStatistics}
use Rattle.stats.specs.Precisions.{known}
use Rattle.questions.specs.declared.types.JoinType.{JoinType}
use Rattle.questions.specs.declared.types.JoinType.TheVariants as type
use Rattle.questions.specs.declared.types.NullEquality.{NullEquality}
use Rattle.questions.specs.declared.types.KeyPair.{KeyPair}
use Rattle.questions.specs.declared.figures.Figure.{Figure}
use Rattle.questions.specs.Questions.{Question}
use Rattle.sheet.specs.declared.Node.{Node}
use Rattle.sheet.specs.Sheets.{Sheet, Table, node_at, table_of, table_at}
use Rattle.sheet.specs.Made.{Made, join_question, marked_by, joined_by, figure_held, joined}
use Rattle.sheet.proofs.LawsHold.{asked_figure}

-- a mark join makes the same whatever the figure
held_made : {K : Type 0} (t : JoinType) (rule : NullEquality) (pairs : List KeyPair) (f : Option Figure) (l r : Table K) → joined_by t rule pairs (figure_held t f) l r ≡ joined_by t rule pairs f l r
held_made type.Inner rule pairs f l r = refl
held_made type.Full rule pairs f l r = refl
held_made type.Left rule pairs f l r = refl
held_made type.Right rule pairs f l r = refl
held_made type.LeftSemi rule pairs f l r = refl
held_made type.RightSemi rule pairs f l r = refl
held_made type.LeftAnti rule pairs f l r = refl
held_made type.RightAnti rule pairs f l r = refl
held_made type.LeftMark rule pairs f l r = refl
held_made type.RightMark rule pairs f l r = refl

marked_by_figure : {K : Type 0} (o : Option ℕ) (t : Table K) → None ≡ (marked_by o t).figure
marked_by_figure (Some n) t = refl
marked_by_figure None t = refl

-- what a join holds
held_figure : {K : Type 0} (t : JoinType) (rule : NullEquality) (pairs : List KeyPair) (f : Option Figure) (l r : Table K) → figure_held t f ≡ (joined_by t rule pairs f l r).figure
held_figure type.Inner rule pairs f l r = sym (asked_figure type.Inner tt rule pairs f l r)
held_figure type.Full rule pairs f l r = sym (asked_figure type.Full tt rule pairs f l r)
held_figure type.Left rule pairs f l r = sym (asked_figure type.Left tt rule pairs f l r)
held_figure type.Right rule pairs f l r = sym (asked_figure type.Right tt rule pairs f l r)
held_figure type.LeftSemi rule pairs f l r = sym (asked_figure type.LeftSemi tt rule pairs f l r)
held_figure type.RightSemi rule pairs f l r = sym (asked_figure type.RightSemi tt rule pairs f l r)
held_figure type.LeftAnti rule pairs f l r = sym (asked_figure type.LeftAnti tt rule pairs f l r)
held_figure type.RightAnti rule pairs f l r = sym (asked_figure type.RightAnti tt rule pairs f l r)
held_figure type.LeftMark rule pairs f l r = marked_by_figure (known l.rows) l
held_figure type.RightMark rule pairs f l r = marked_by_figure (known r.rows) r

module _ {K : Type 0} (estimate : Question K → Option Figure) (s : Sheet K) (t : JoinType) (rule : NullEquality) (l r : ℕ) (pairs : List KeyPair) (left right : Node) (is-left : left ≡ node_at s l) (is-right : right ≡ node_at s r) (f : Option Figure) (is : f ≡ figure_held t (estimate (join_question t rule pairs (table_of s.columns left) (table_of s.columns right)))) where
  abbrev makes : Made K
  makes = joined estimate t rule pairs (table_at s l) (table_at s r)

  abbrev code : Made K
  code = joined_by t rule pairs f (table_of s.columns left) (table_of s.columns right)

  same : joined estimate t rule pairs (table_of s.columns left) (table_of s.columns right) ≡ makes
  same = λ i. joined estimate t rule pairs (table_of s.columns (is-left i)) (table_of s.columns (is-right i))

  pub join_made : code ≡ makes
  join_made =
      ap (λ x. joined_by t rule pairs x (table_of s.columns left) (table_of s.columns right)) is ∙
      held_made t rule pairs _ (table_of s.columns left) (table_of s.columns right) ∙ same

  pub join_rows : (p : Precision ℕ) → p ≡ code.rows → p ≡ makes.rows
  join_rows p e = e ∙ ap (λ (m : Made K). m.rows) join_made

  pub join_bytes : (p : Precision ℕ) → p ≡ code.bytes → p ≡ makes.bytes
  join_bytes p e = e ∙ ap (λ (m : Made K). m.bytes) join_made

  pub join_figure : f ≡ makes.figure
  join_figure = is ∙ held_figure t rule pairs _ (table_of s.columns left) (table_of s.columns right) ∙ ap (λ (m : Made K). m.figure) same

  pub join_columns : (cs : List (ColumnStatistics K)) → cs ≡ code.columns → cs ≡ makes.columns
  join_columns cs e = e ∙ ap (λ (m : Made K). m.columns) join_made
