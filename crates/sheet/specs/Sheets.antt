-- A sheet and its nodes, as values. Assumes nothing.
use Rattle.std.specs.Prelude.{ℕ, ◌-◌, ◌≤◌, List, take, drop, None, slice_index_or}
use Rattle.stats.specs.declared.exactness.Precision.{Precision}
use Rattle.stats.specs.declared.exactness.Precision.TheVariants.{Exact}
use Rattle.stats.specs.declared.columns.ColumnStatistics.{ColumnStatistics}
use Rattle.sheet.specs.declared.Head.{Head}
use Rattle.sheet.specs.declared.Node.{Node}
use Rattle.sheet.specs.declared.operators.Operator.TheVariants.{Lay}

pub record Sheet (K : Type 0) : Type 0 where
  pub head : Head
  pub nodes : List Node
  pub columns : List (ColumnStatistics K)

-- the head and the memory that a call is handed
abbrev pub sheet_of : {K : Type 0} → Head → List Node → List (ColumnStatistics K) → Sheet K
sheet_of head nodes columns = record { head = head; nodes = nodes; columns = columns }

-- nodes are numbered from 1
pub record Standing {K : Type 0} (s : Sheet K) (n : ℕ) : Type 0 where
  pub from_1 : 1 ≤ n
  pub to_last : n ≤ s.head.count

-- what a read past node memory would give
abbrev pub no_node : Node
no_node = record { rows = Exact 0; bytes = Exact 0; place = 0; width = 0; figure = None; operator = Lay }

abbrev pub node_at : {K : Type 0} → Sheet K → ℕ → Node
node_at s n = slice_index_or s.nodes (n - 1) no_node

-- the columns of a node: its block of column memory
abbrev pub block : {K : Type 0} → List (ColumnStatistics K) → Node → List (ColumnStatistics K)
block columns node = take node.width (drop node.place columns)

-- what a node says of its table
pub record Table (K : Type 0) : Type 0 where
  pub rows : Precision ℕ
  pub bytes : Precision ℕ
  pub columns : List (ColumnStatistics K)

abbrev pub table_of : {K : Type 0} → List (ColumnStatistics K) → Node → Table K
table_of columns node = record { rows = node.rows; bytes = node.bytes; columns = block columns node }

abbrev pub table_at : {K : Type 0} → Sheet K → ℕ → Table K
table_at s n = table_of s.columns (node_at s n)
