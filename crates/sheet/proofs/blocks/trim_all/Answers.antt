use Rattle.std.proofs.Common.{◌≡◌, ℕ, set, sym, ap, ◌∙◌}
use Rattle.std.proofs.lemmas.List.Edits.{map_over_more}
use Rattle.stats.specs.declared.exactness.Precision.{Precision}
use Rattle.stats.specs.declared.exactness.Precision.TheVariants.{Exact, Inexact, Absent}
use Rattle.stats.specs.declared.columns.ColumnStatistics.{ColumnStatistics}
use Rattle.stats.specs.Trim.{trimmed}
use Rattle.sheet.proofs.blocks.trim_all.Goals as goal

-- a trim leaves the rest of a column as it is
counts_alone : {K : Type 0} (rows : Precision ℕ) (x r : ColumnStatistics K) → r ≡ trimmed rows x → ◌≡◌ {A = ColumnStatistics K} (record { null_count = r.null_count; distinct_count = r.distinct_count; byte_size = x.byte_size; min_value = x.min_value; max_value = x.max_value }) (trimmed rows x)
counts_alone (Exact n) x r h = rw h (λ i. trimmed (Exact n) x)
counts_alone (Inexact n) x r h = rw h (λ i. trimmed (Inexact n) x)
counts_alone Absent x r h = rw h (λ i. x)

pub loop-column-preserved : goal.loop-column-preserved
loop-column-preserved g c =
    ap (set c.loop-column.block c.loop-column.column-index) (counts_alone c.args.rows _ c.trim-trimmed.result c.trim-trimmed.ensures.value ∙ ap (trimmed c.args.rows) (sym c.column-item.is)) ∙
    map_over_more (trimmed c.args.rows) c.args.block.now c.loop-column.block c.loop-column.column-index c.column-item.result c.loop-column-test.true c.loop-column.invariant c.column-item.is
