-- The laws of the most distinct values. Assumes nothing.
use Rattle.std.proofs.Common.{◌≡◌, ℕ, true, is_some, Some, Option, arith}
use Rattle.std.proofs.lemmas.Bool.Decides.{nat_tests}
use Rattle.stats.specs.declared.exactness.Precision.{Precision}
use Rattle.stats.specs.declared.columns.ColumnStatistics.{ColumnStatistics}
use Rattle.stats.specs.Precisions.{known, AtMost}
use Rattle.stats.specs.Distincts.{not_null, values_in_range, tighter, distinct_by, max_distinct, Distincts}

-- by rows, nulls, distincts and the range's size, whatever they are
module _ (rows nulls d range : Precision ℕ) where
  abbrev most : Precision ℕ
  most = distinct_by rows d (tighter (not_null rows nulls) range)

  at_most : (n : ℕ) → known rows ≡ Some n → AtMost n most
  at_most n e = grind (arith, nat_tests)

  by_distincts : is_some (known d) ≡ true → is_some (known most) ≡ true
  by_distincts e = grind (arith, nat_tests)

  by_rows : is_some (known rows) ≡ true → is_some (known most) ≡ true
  by_rows e = grind (arith, nat_tests)

  by_range : is_some (known range) ≡ true → is_some (known most) ≡ true
  by_range e = grind (arith, nat_tests)

pub distincts : {K : Type 0} (size : K → K → Option ℕ) (rows : Precision ℕ) (c : ColumnStatistics K) → Distincts size rows c (max_distinct size rows c)
distincts size rows c = record {
  at_most_rows = at_most rows c.null_count c.distinct_count (values_in_range size c);
  by_distincts = by_distincts rows c.null_count c.distinct_count (values_in_range size c);
  by_rows = by_rows rows c.null_count c.distinct_count (values_in_range size c);
  by_range = by_range rows c.null_count c.distinct_count (values_in_range size c);
}
