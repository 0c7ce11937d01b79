-- A divisor of distinct counts is never 0. Assumes nothing.
use Rattle.std.proofs.Common.{ℕ, ◌*◌, ◌<◌, List, [], ◌∷◌, Some, None, fold, Option, mul-pos, arith}
use Rattle.std.proofs.lemmas.Bool.Decides.{nat_tests}
use Rattle.stats.specs.Precisions.{known}
use Rattle.estimators.specs.declared.pairs.KeyColumns.{KeyColumns}
use Rattle.estimators.specs.Product.{larger_distinct, stopping_product, divisor, Positive}

pub larger_positive : (a b : Option ℕ) → Positive (larger_distinct a b)
larger_positive (Some a) (Some b) = grind (arith, nat_tests)
larger_positive (Some a) None = tt
larger_positive None b = tt

pub product_positive : (p d : Option ℕ) → Positive p → Positive d → Positive (stopping_product p d)
product_positive (Some p) (Some d) h k = let m : 0 < p * d = mul-pos h k in omega arith
product_positive (Some p) None h k = tt
product_positive None d h k = tt

positive_from : {K : Type 0} (p : Option ℕ) (ks : List (KeyColumns K)) → Positive p → Positive (fold (λ p k. stopping_product p (larger_distinct (known k.this.distinct_count) (known k.other.distinct_count))) p ks)
positive_from p [] h = h
positive_from p (k ∷ ks) h =
    let d = larger_distinct (known k.this.distinct_count) (known k.other.distinct_count) in
    positive_from (stopping_product p d) ks (product_positive p d h (larger_positive (known k.this.distinct_count) (known k.other.distinct_count)))

pub divisor_positive : {K : Type 0} (ks : List (KeyColumns K)) → Positive (divisor ks)
divisor_positive ks = positive_from (Some 1) ks (omega arith)
