-- The names of operators and the causes of refusals, as text. Assumes nothing.
use Rattle.std.specs.Prelude.{ℕ, List, codes}
use Rattle.questions.specs.Names.{join_name}
use Rattle.sheet.specs.declared.operators.Operator.{Operator}
use Rattle.sheet.specs.declared.operators.Operator.TheVariants.{Lay, Join, Cross, Limit, Union, Group}
use Rattle.sheet.specs.declared.refusals.Refusal.{Refusal}
use Rattle.sheet.specs.declared.refusals.Refusal.TheVariants.{NodeMemory, Child, Count, KeyIndex, Width, ColumnMemory, Rows, Bytes, Column}

-- a join has the name of its type
abbrev pub operator_name : Operator → List ℕ
operator_name Lay = codes "table"
operator_name (Join t rule left right on) = join_name t
operator_name (Cross left right) = codes "cross join"
operator_name (Limit child skip fetch) = codes "limit"
operator_name (Union children) = codes "union"
operator_name (Group mode sets extras child by) = codes "group"

abbrev pub cause : Refusal → List ℕ
cause NodeMemory = codes "no room for a node"
cause Child = codes "a node that does not stand"
cause Count = codes "too many keys, or no or too many nodes"
cause KeyIndex = codes "a key outside its table"
cause Width = codes "too many columns, or not as many in each"
cause ColumnMemory = codes "no room for the columns"
cause Rows = codes "too many rows"
cause Bytes = codes "too many bytes"
cause (Column i) = codes "a column that cannot be"
