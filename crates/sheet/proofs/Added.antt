-- A node that is written as it was made. Assumes nothing.
use Rattle.std.proofs.Common.{◌≡◌, ℕ, ◌+◌, List, map, length, set, sym, ◌∙◌}
use lib.Seq.{paste}
use Rattle.stats.specs.declared.columns.ColumnStatistics.{ColumnStatistics}
use Rattle.stats.specs.Trim.{trimmed}
use Rattle.sheet.specs.declared.Head.{Head}
use Rattle.sheet.specs.declared.Node.{Node}
use Rattle.sheet.specs.declared.operators.Operator.{Operator}
use Rattle.sheet.specs.Sheets.{Sheet, sheet_of}
use Rattle.sheet.specs.Made.{Made}
use Rattle.sheet.specs.Steps.{with_node}

module _ {K : Type 0} (operator : Operator) (m : Made K) (s : Sheet K) (w : ℕ) (cs : List (ColumnStatistics K)) (wide : length m.columns ≡ w) (same : map (trimmed m.rows) m.columns ≡ cs) where
  abbrev node : ℕ → Node
  node width = record { rows = m.rows; bytes = m.bytes; place = s.head.used; width = width; figure = m.figure; operator = operator }

  -- head, nodes and columns as the code leaves them
  pub node_added : (h : Head) (ns : List Node) (xs : List (ColumnStatistics K)) → h ≡ record { count = s.head.count + 1; used = s.head.used + w } → ns ≡ set s.nodes s.head.count (node w) → xs ≡ paste s.columns s.head.used cs w → sheet_of h ns xs ≡ with_node operator m s
  node_added h ns xs a b c =
      (λ i. sheet_of (a i) (b i) (c i)) ∙
      (λ i. sheet_of (record { count = s.head.count + 1; used = s.head.used + sym wide i }) (set s.nodes s.head.count (node (sym wide i))) (paste s.columns s.head.used (sym same i) (sym wide i)))
