-- What trim keeps. Assumes nothing.
use Rattle.std.proofs.Common.{◌≡◌, ℕ, ◌+◌, ◌-◌, ◌≤◌, true, refl, ap, ◌∙◌, arith}
use Rattle.std.proofs.lemmas.Bool.Decides.{nat_tests}
use Rattle.std.proofs.lemmas.Bool.{and_parts, and_from}
use Rattle.keys.specs.declared.Relation.{Relation}
use Rattle.stats.specs.declared.exactness.Precision.{Precision}
use Rattle.stats.specs.declared.exactness.Precision.TheVariants.{Exact, Inexact, Absent}
use Rattle.stats.specs.declared.columns.ColumnStatistics.{ColumnStatistics}
use Rattle.stats.specs.Precisions.{capped, or_zero, at_most}
use Rattle.stats.specs.Limits.{max_count}
use Rattle.stats.specs.Columns.{within_limits}
use Rattle.stats.specs.Trim.{trimmed_to, trimmed, Ceiling, Trims}

pub capped_le : (n : ℕ) (p : Precision ℕ) → or_zero (capped n p) ≤ n
capped_le n (Exact v) = grind (arith, nat_tests)
capped_le n (Inexact v) = grind (arith, nat_tests)
capped_le n Absent = omega arith

-- a count that is at most n stays
pub capped_same : (n : ℕ) (p : Precision ℕ) → or_zero p ≤ n → capped n p ≡ p
capped_same n (Exact v) h = grind (arith, nat_tests)
capped_same n (Inexact v) h = grind (arith, nat_tests)
capped_same n Absent h = refl

-- a cap never raises a count
pub capped_within : (n m : ℕ) (p : Precision ℕ) → at_most m p ≡ true → at_most m (capped n p) ≡ true
capped_within n m (Exact v) h = grind (arith, nat_tests)
capped_within n m (Inexact v) h = grind (arith, nat_tests)
capped_within n m Absent h = refl

module _ {K : Type 0} (n : ℕ) (c : ColumnStatistics K) where
  under : or_zero (trimmed_to n c).null_count + or_zero (trimmed_to n c).distinct_count ≤ n
  under = let a = capped_le n c.null_count in let b = capped_le (n - or_zero (capped n c.null_count)) c.distinct_count in omega arith

  stays : or_zero c.null_count + or_zero c.distinct_count ≤ n → trimmed_to n c ≡ c
  stays h =
      let a : capped n c.null_count ≡ c.null_count = capped_same n c.null_count (omega arith) in
      let b = ap (λ (nulls : Precision ℕ). capped (n - or_zero nulls) c.distinct_count) a ∙ capped_same (n - or_zero c.null_count) c.distinct_count (omega arith) in
      λ i. record {
        null_count = a i;
        distinct_count = b i;
        byte_size = c.byte_size;
        min_value = c.min_value;
        max_value = c.max_value;
      }

  within : within_limits c ≡ true → within_limits (trimmed_to n c) ≡ true
  within h =
      let p = and_parts _ _ h in
      let q = and_parts _ _ p.1 in
      and_from _ _ (capped_within n max_count c.null_count p.0) (and_from _ _ (capped_within _ max_count c.distinct_count q.0) q.1)

  trims_to : (relation : K → K → Relation) (rows : Precision ℕ) → Ceiling rows (trimmed_to n c) → (Ceiling rows c → trimmed_to n c ≡ c) → Trims relation rows c (trimmed_to n c)
  trims_to relation rows a b = record { ceiling = a; stays = b; stays_lawful = λ h. h; stays_within = within }

pub trims : {K : Type 0} (relation : K → K → Relation) (rows : Precision ℕ) (c : ColumnStatistics K) → Trims relation rows c (trimmed rows c)
trims relation (Exact n) c = trims_to n c relation (Exact n) (under n c) (stays n c)
trims relation (Inexact n) c = trims_to n c relation (Inexact n) (under n c) (stays n c)
trims relation Absent c = record { ceiling = tt; stays = λ h. refl; stays_lawful = λ h. h; stays_within = λ h. h }

pub trim_ceiling : {K : Type 0} (rows : Precision ℕ) (c : ColumnStatistics K) → Ceiling rows (trimmed rows c)
trim_ceiling (Exact n) c = under n c
trim_ceiling (Inexact n) c = under n c
trim_ceiling Absent c = tt
