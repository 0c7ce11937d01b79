-- What a semi or an anti join makes, from the kept node. Assumes nothing.
use Rattle.std.proofs.Common.{◌≡◌, ℕ, Bool, List, Some, fold, Option, ap, ◌∙◌}
use Rattle.stats.specs.declared.exactness.Precision.{Precision}
use Rattle.stats.specs.declared.exactness.Precision.TheVariants.{Exact}
use Rattle.stats.specs.Precisions.{inexact, known, total, or_zero}
use Rattle.stats.specs.Scaling.{scaled}
use Rattle.questions.specs.declared.types.NullEquality.{NullEquality}
use Rattle.questions.specs.declared.figures.Figure.{Figure}
use Rattle.sheet.specs.Sheets.{Table}
use Rattle.sheet.specs.Made.{Made, rows_kept, part_by, part}
use Rattle.sheet.proofs.PartLoops.{bytes_kept}

module _ {K : Type 0} (anti : Bool) (rule : NullEquality) (keys : List ℕ) (f : Option Figure) (t : Table K) where
  pub part_known : (n : ℕ) → Some n ≡ known t.rows → part_by anti rule keys f (Some n) t ≡ part anti rule keys f t
  part_known n e = ap (λ o. part_by anti rule keys f o t) e

  pub part_bytes : (n k : ℕ) (rows : Precision ℕ) → Some n ≡ known t.rows → rows ≡ rows_kept f t.rows → k ≡ or_zero rows → inexact (fold (λ sum c. total sum (scaled c.byte_size n k)) (Exact 0) t.columns) ≡ (part anti rule keys f t).bytes
  part_bytes n k rows e r z =
      ap (λ j. inexact (fold (λ sum c. total sum (scaled c.byte_size n j)) (Exact 0) t.columns)) (z ∙ ap or_zero r) ∙
      bytes_kept anti rule keys n (or_zero (rows_kept f t.rows)) t.columns ∙
      ap (λ (m : Made K). m.bytes) (part_known n e)
