-- What a grouping makes, from its child's node. Assumes nothing.
use Rattle.std.proofs.Common.{◌≡◌, ℕ, List, Some, None, Option, refl, ap, ◌∙◌}
use Rattle.stats.specs.declared.exactness.Precision.{Precision}
use Rattle.stats.specs.declared.columns.ColumnStatistics.{ColumnStatistics}
use Rattle.questions.specs.declared.types.KeySide.{KeySide}
use Rattle.sheet.specs.declared.Node.{Node}
use Rattle.sheet.specs.declared.operators.AggregateMode.{AggregateMode}
use Rattle.sheet.specs.Sheets.{Sheet, Table, node_at, block, table_of, table_at}
use Rattle.sheet.specs.Made.{Made, group_count, groups_rows, groups_bytes, grouped_by, grouped}

grouped_rows : {K : Type 0} (o : Option ℕ) (extras : ℕ) (keys : List KeySide) (t : Table K) → groups_rows o t.rows ≡ (grouped_by o extras keys t).rows
grouped_rows (Some p) extras keys t = refl
grouped_rows None extras keys t = refl

grouped_bytes : {K : Type 0} (o : Option ℕ) (extras : ℕ) (keys : List KeySide) (t : Table K) → groups_bytes o t.rows t.bytes ≡ (grouped_by o extras keys t).bytes
grouped_bytes (Some p) extras keys t = refl
grouped_bytes None extras keys t = refl

grouped_figure : {K : Type 0} (o : Option ℕ) (extras : ℕ) (keys : List KeySide) (t : Table K) → None ≡ (grouped_by o extras keys t).figure
grouped_figure (Some p) extras keys t = refl
grouped_figure None extras keys t = refl

module _ {K : Type 0} (s : Sheet K) (c : ℕ) (mode : AggregateMode) (sets extras : ℕ) (keys : List KeySide) (from : Node) (is : from ≡ node_at s c) (groups : Option ℕ) (counted : groups ≡ group_count mode sets keys (block s.columns from)) where
  abbrev makes : Made K
  makes = grouped mode sets extras keys (table_at s c)

  abbrev code : Made K
  code = grouped_by groups extras keys (table_of s.columns from)

  same : code ≡ makes
  same = (λ i. grouped_by (counted i) extras keys (table_of s.columns from)) ∙ (λ i. grouped mode sets extras keys (table_of s.columns (is i)))

  pub group_rows : (r : Precision ℕ) → r ≡ groups_rows groups from.rows → r ≡ makes.rows
  group_rows r e = e ∙ grouped_rows groups extras keys (table_of s.columns from) ∙ ap (λ (m : Made K). m.rows) same

  pub group_bytes : (b : Precision ℕ) → b ≡ groups_bytes groups from.rows from.bytes → b ≡ makes.bytes
  group_bytes b e = e ∙ grouped_bytes groups extras keys (table_of s.columns from) ∙ ap (λ (m : Made K). m.bytes) same

  pub group_figure : None ≡ makes.figure
  group_figure = grouped_figure groups extras keys (table_of s.columns from) ∙ ap (λ (m : Made K). m.figure) same

  pub group_columns : (b : List (ColumnStatistics K)) → b ≡ code.columns → b ≡ makes.columns
  group_columns b e = e ∙ ap (λ (m : Made K). m.columns) same
