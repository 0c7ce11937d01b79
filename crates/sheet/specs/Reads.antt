-- Reading a node. Assumes nothing.
use Rattle.std.specs.Prelude.{ℕ, not, ◌&&◌, List, None, Ok, Err, Option, Result}
use Rattle.keys.specs.declared.Relation.{Relation}
use Rattle.stats.specs.declared.exactness.Precision.{Precision}
use Rattle.stats.specs.declared.columns.ColumnStatistics.{ColumnStatistics}
use Rattle.questions.specs.declared.figures.Figure.{Figure}
use Rattle.sheet.specs.declared.operators.Operator.{Operator}
use Rattle.sheet.specs.declared.refusals.Refusal.{Refusal}
use Rattle.sheet.specs.declared.refusals.Refusal.TheVariants as refusal
use Rattle.sheet.specs.declared.reads.NodeView.{NodeView}
use Rattle.sheet.specs.Sheets.{Sheet, node_at, block}
use Rattle.sheet.specs.Causes.{short_nodes, short_columns, block_inside, fit_child, unless}
use Rattle.sheet.specs.Steps.{answered}

-- what is read of a node
pub record Reading (K : Type 0) : Type 0 where
  pub rows : Precision ℕ
  pub bytes : Precision ℕ
  pub figure : Option Figure
  pub operator : Operator
  pub columns : List (ColumnStatistics K)

abbrev pub reading_at : {K : Type 0} → Sheet K → ℕ → Reading K
reading_at s n = record {
  rows = (node_at s n).rows;
  bytes = (node_at s n).bytes;
  figure = (node_at s n).figure;
  operator = (node_at s n).operator;
  columns = block s.columns (node_at s n);
}

-- a node is looked at as a child is; a full sheet can be read
abbrev pub read_refusal : {K : Type 0} → (K → K → Relation) → Sheet K → ℕ → Option Refusal
read_refusal relation s n =
    unless (not (short_nodes s)) refusal.NodeMemory
    (unless (fit_child relation s n) refusal.Child
    (unless (not (short_columns s) && block_inside s (node_at s n)) refusal.ColumnMemory None))

abbrev pub read_answer : {K : Type 0} → (K → K → Relation) → Sheet K → ℕ → Result (Reading K) Refusal
read_answer relation s n = answered (read_refusal relation s n) (reading_at s n)

-- what a view in memory shows
abbrev pub shown : {K : Type 0} → Result (NodeView K) Refusal → Result (Reading K) Refusal
shown (Ok v) = Ok (record { rows = v.rows; bytes = v.bytes; figure = v.figure; operator = v.operator; columns = v.columns.now })
shown (Err r) = Err r
