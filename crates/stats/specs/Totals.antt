-- Several counts added up. Assumes nothing.
use Rattle.std.specs.Prelude.{ℕ, List, fold}
use Rattle.stats.specs.declared.exactness.Precision.{Precision}
use Rattle.stats.specs.declared.exactness.Precision.TheVariants.{Exact}
use Rattle.stats.specs.Precisions.{total}

abbrev pub total_of : List (Precision ℕ) → Precision ℕ
total_of counts = fold total (Exact 0) counts
