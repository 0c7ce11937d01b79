-- What a union makes, from its children's nodes. Assumes nothing.
use Rattle.std.proofs.Common.{◌≡◌, ℕ, List, [], ◌∷◌, map, length, fold, sym, refl, ap, ◌∙◌}
use lib.ListN.{length-replicate}
use Rattle.std.proofs.lemmas.List.Folds.{fold-map}
use Rattle.stats.specs.declared.exactness.Precision.{Precision}
use Rattle.stats.specs.declared.exactness.Precision.TheVariants.{Exact}
use Rattle.stats.specs.Precisions.{total}
use Rattle.stats.specs.Bytes.{rescaled_bytes}
use Rattle.stats.specs.Columns.{unknown_column}
use Rattle.sheet.specs.Sheets.{Sheet, Table, node_at, table_at}
use Rattle.sheet.specs.Made.{Made, unknowns, first_width, united}
use Rattle.sheet.specs.Causes.{union_width, width_of_first}

pub first_is : {K : Type 0} (s : Sheet K) (cs : List ℕ) → width_of_first s.nodes cs ≡ union_width s cs
first_is s [] = refl
first_is s (c ∷ cs) = refl

module _ {K : Type 0} (s : Sheet K) (cs : List ℕ) where
  abbrev rows : Precision ℕ
  rows = fold (λ sum c. total sum (node_at s c).rows) (Exact 0) cs

  abbrev bytes : Precision ℕ
  bytes = fold (λ sum c. total sum (node_at s c).bytes) (Exact 0) cs

  abbrev makes : Made K
  makes = united (map (table_at s) cs)

  rows_is : rows ≡ makes.rows
  rows_is = sym (fold-map (λ sum (t : Table K). total sum t.rows) (table_at s) (Exact 0) cs)

  bytes_is : bytes ≡ fold (λ sum (t : Table K). total sum t.bytes) (Exact 0) (map (table_at s) cs)
  bytes_is = sym (fold-map (λ sum (t : Table K). total sum t.bytes) (table_at s) (Exact 0) cs)

  pub union_rows : (r : Precision ℕ) → r ≡ rows → r ≡ makes.rows
  union_rows r e = e ∙ rows_is

  pub union_bytes : (r b c : Precision ℕ) → r ≡ rows → b ≡ bytes → c ≡ rescaled_bytes b r r → c ≡ makes.bytes
  union_bytes r b c e f h = h ∙ (λ i. rescaled_bytes ((f ∙ bytes_is) i) (union_rows r e i) (union_rows r e i))

  -- its columns, w of them
  pub union_columns : (w n : ℕ) → length makes.columns ≡ w → n ≡ w → unknowns n ≡ makes.columns
  union_columns w n e h = ap unknowns (h ∙ sym e ∙ length-replicate (first_width (map (table_at s) cs)) unknown_column)
