-- The number of each refusal. Assumes nothing.
use Rattle.std.specs.Prelude.{ℕ, Some, None, Option}
use Rattle.sheet.specs.declared.refusals.Refusal.{Refusal}
use Rattle.sheet.specs.declared.refusals.Refusal.TheVariants.{NodeMemory, Child, Count, KeyIndex, Width, ColumnMemory, Rows, Bytes, Column}

abbrev pub refusal_number : Refusal → ℕ
refusal_number NodeMemory = 1
refusal_number Child = 2
refusal_number Count = 3
refusal_number KeyIndex = 4
refusal_number Width = 5
refusal_number ColumnMemory = 6
refusal_number Rows = 7
refusal_number Bytes = 8
refusal_number (Column i) = 9

abbrev pub refused_column : Refusal → Option ℕ
refused_column NodeMemory = None
refused_column Child = None
refused_column Count = None
refused_column KeyIndex = None
refused_column Width = None
refused_column ColumnMemory = None
refused_column Rows = None
refused_column Bytes = None
refused_column (Column i) = Some i
