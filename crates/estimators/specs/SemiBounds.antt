-- A semi join never has more rows than its kept side: every factor lies between
-- 0 and 1, and rounding is monotone. Assumes nothing.
use Rattle.std.specs.Prelude.{◌≡◌, ℕ, ◌^◌, ◌<◌, ◌≤◌, min, Bool, true, false, cond, ◌&&◌, ◌||◌, List, [], ◌∷◌, is_some, Some, None, fold, Option, ◌==◌, nat_le, refl, Float}
use Rattle.std.proofs.Common.{arith, lit≤}
use Rattle.std.specs.Float.Ieee.{mul, div, sub}
use Rattle.std.specs.Float.{float_one, float_zero, binary64}
use Rattle.std.specs.Option.{option_map}
use Rattle.std.proofs.lemmas.Bool.{leb-true, eqb-false, both_ways}
use Rattle.keys.specs.declared.Relation.{Relation}
use Rattle.floats.specs.Counts.{float}
use Rattle.floats.proofs.Fractions.{float_value}
use Rattle.floats.proofs.Upto.{Upto, mul_upto, div_upto, rest_upto, one_upto, zero_upto, times_upto, ceil_upto}
use Rattle.stats.specs.declared.exactness.Precision.{Precision}
use Rattle.stats.specs.declared.exactness.Precision.TheVariants.{Exact, Inexact, Absent}
use Rattle.stats.specs.Precisions.{known, AtMost}
use Rattle.stats.specs.Distincts.{max_distinct}
use Rattle.stats.proofs.DistinctLaws.{distincts}
use Rattle.questions.specs.declared.types.NullEquality.{NullEquality}
use Rattle.questions.specs.declared.types.NullEquality.TheVariants.{NullEqualsNothing, NullEqualsNull}
use Rattle.estimators.specs.declared.pairs.KeyColumns.{KeyColumns}
use Rattle.estimators.specs.Disjoint.{disjoint}
use Rattle.estimators.specs.Semi.{has_statistics, null_part_of, null_part, factor_by, pair_factor, times, selectivity, rows_kept, by_others, semi_of}

-- a factor, where there is one, lies between 0 and 1
abbrev pub Part : Option Float → Type 0
Part None = Unit {0}
Part (Some s) = Upto 1 s

part_cond : (b : Bool) (f : Float) → (b ≡ true → Upto 1 f) → Upto 1 (cond b f float_zero)
part_cond true f h = h refl
part_cond false f h = zero_upto

null_upto : (n : ℕ) → 0 < n → n ≤ 2 ^ 26 → (nulls : Option ℕ) → Upto 1 (null_part_of nulls n)
null_upto n N F (Some v) =
    part_cond (nat_le v n) (div binary64 (float v) (float n))
    (λ h. let l = leb-true v n h in div_upto binary64 1 v n (float v) (float n) (lit≤ tt) N (omega arith) (float_value v (omega arith)) (float_value n (omega arith)))
null_upto n N F None = zero_upto

nulls_upto : (rule : NullEquality) (nulls : Precision ℕ) (n : ℕ) → 0 < n → n ≤ 2 ^ 26 → Upto 1 (null_part rule nulls n)
nulls_upto NullEqualsNothing nulls n N F = null_upto n N F (known nulls)
nulls_upto NullEqualsNull nulls n N F = zero_upto

option_cond : (b : Bool) (o : Option Float) → (b ≡ false → Part o) → Part (cond b None o)
option_cond true o h = tt
option_cond false o h = h refl

-- counts up to 2 ^ 53, as far as they are known
abbrev Few : Option ℕ → Type 0
Few None = Unit {0}
Few (Some d) = d ≤ 2 ^ 26

factor_part : (f : Float) → Upto 1 f → (d e : Option ℕ) → Few d → Few e → Part (factor_by f d e)
factor_part f u (Some d) (Some e) D E =
    option_cond (d == 0) (Some (mul binary64 (div binary64 (float (min d e)) (float d)) (sub binary64 float_one f)))
    (λ h.
    let z = eqb-false d 0 h in
    let p : 0 < d = omega arith in
    mul_upto binary64 1 1 _ _ (lit≤ tt)
    (div_upto binary64 1 (min d e) d (float (min d e)) (float d) (lit≤ tt) p (omega arith) (float_value (min d e) (omega arith)) (float_value d (omega arith)))
    (rest_upto f u))
factor_part f u (Some d) None D E = tt
factor_part f u None e D E = tt

some_cond : (b : Bool) (o : Option Float) → Part o → Part (cond b o None)
some_cond true o h = h
some_cond false o h = tt

times_part : (s f : Option Float) → Part s → Part f → Part (times s f)
times_part s None h k = h
times_part None (Some f) h k = mul_upto binary64 1 1 float_one f (lit≤ tt) one_upto k
times_part (Some s) (Some f) h k = mul_upto binary64 1 1 s f (lit≤ tt) h k

few_of : (p : Precision ℕ) (m : ℕ) → m ≤ 2 ^ 26 → AtMost m p → Few (known p)
few_of (Exact v) m M h = omega arith
few_of (Inexact v) m M h = omega arith
few_of Absent m M h = tt

module _ {K : Type 0} (size : K → K → Option ℕ) (rule : NullEquality) (n m : ℕ) (kept others : Precision ℕ) (N : 0 < n) (F : n ≤ 2 ^ 26) (G : m ≤ 2 ^ 26) (is : known kept ≡ Some n) (other_is : known others ≡ Some m) where
  pair_part : (k : KeyColumns K) → Part (pair_factor size rule n kept others k)
  pair_part k =
      some_cond (has_statistics k.this && has_statistics k.other) _
      (factor_part (null_part rule k.this.null_count n) (nulls_upto rule k.this.null_count n N F) (known (max_distinct size kept k.this)) (known (max_distinct size others k.other))
      (few_of (max_distinct size kept k.this) n F ((distincts size kept k.this).at_most_rows n is))
      (few_of (max_distinct size others k.other) m G ((distincts size others k.other).at_most_rows m other_is)))

  folded_part : (ks : List (KeyColumns K)) (s : Option Float) → Part s → Part (fold (λ s k. times s (pair_factor size rule n kept others k)) s ks)
  folded_part [] s h = h
  folded_part (k ∷ ks) s h = folded_part ks (times s (pair_factor size rule n kept others k)) (times_part s (pair_factor size rule n kept others k) h (pair_part k))

  selectivity_part : (ks : List (KeyColumns K)) → Part (selectivity size rule n kept others ks)
  selectivity_part ks = folded_part ks None tt

-- at most n, where it is known
abbrev pub AtMostRows : ℕ → Option ℕ → Type 0
AtMostRows n None = Unit {0}
AtMostRows n (Some r) = r ≤ n

kept_le : (n : ℕ) (s : Option Float) → n ≤ 2 ^ 26 → Part s → AtMostRows n (option_map (rows_kept n) s)
kept_le n None F p = tt
kept_le n (Some s) F p = ceil_upto n (mul binary64 (float n) s) (omega arith) (times_upto n s (omega arith) p)

zero_or : (b : Bool) (n : ℕ) (o : Option ℕ) → (b ≡ false → AtMostRows n o) → AtMostRows n (cond b (Some 0) o)
zero_or true n o h = omega arith
zero_or false n o h = h refl

others_le : (n : ℕ) (others : Option ℕ) (o : Option ℕ) → ((m : ℕ) → others ≡ Some m → AtMostRows n o) → AtMostRows n (by_others others o)
others_le n None o h = tt
others_le n (Some m) o h = zero_or (m == 0) n o (λ e. h m refl)

positive : (b : Bool) (n : ℕ) → (b || n == 0) ≡ false → 0 < n
positive true n h = absurd (both_ways true h refl)
positive false n h = let z = eqb-false n 0 h in omega arith

few_known : (p : Precision ℕ) (m : ℕ) → AtMost (2 ^ 26) p → known p ≡ Some m → m ≤ 2 ^ 26
few_known (Exact v) m h e = let i : v ≡ m = cc in omega arith
few_known (Inexact v) m h e = let i : v ≡ m = cc in omega arith
few_known Absent m h e = cc

-- the kept rows with a match are no more than the kept rows
pub semi_le : {K : Type 0} (relation : K → K → Relation) (size : K → K → Option ℕ) (rule : NullEquality) (n : ℕ) (kept others : Precision ℕ) (ks : List (KeyColumns K)) → AtMost (2 ^ 26) kept → AtMost (2 ^ 26) others → known kept ≡ Some n → AtMostRows n (semi_of relation size rule (Some n) kept others ks)
semi_le relation size rule n kept others ks F G is =
    zero_or (is_some (known (disjoint relation rule ks)) || n == 0) n _
    (λ e.
    let N = positive (is_some (known (disjoint relation rule ks))) n e in
    others_le n (known others) _
    (λ m om. kept_le n _ (few_known kept n F is) (selectivity_part size rule n m kept others N (few_known kept n F is) (few_known others m G om) is om ks)))
