-- Figures: numbers of rows, exact or not. Assumes nothing.
use Rattle.std.specs.Prelude.{ℕ, Some, None, Option}
use Rattle.stats.specs.declared.exactness.Precision.{Precision}
use Rattle.stats.specs.declared.exactness.Precision.TheVariants as rows
use Rattle.questions.specs.declared.figures.Figure.{Figure}
use Rattle.questions.specs.declared.figures.Figure.TheVariants.{Exact, Inexact}

abbrev pub figure_of : Precision ℕ → Option Figure
figure_of (rows.Exact n) = Some (Exact n)
figure_of (rows.Inexact n) = Some (Inexact n)
figure_of rows.Absent = None

abbrev pub rows_of : Figure → Precision ℕ
rows_of (Exact n) = rows.Exact n
rows_of (Inexact n) = rows.Inexact n

abbrev pub amount : Figure → ℕ
amount (Exact n) = n
amount (Inexact n) = n
