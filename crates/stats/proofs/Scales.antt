-- Scaling rounds a fraction up, and a part of the rows has no more than all.
-- Assumes nothing.
use Rattle.std.proofs.Common.{◌≡◌, ℕ, ◌+◌, ◌*◌, ◌^◌, ◌<◌, ◌≤◌, Some, refl, ⊎_elim, mul-le-mul_right, add-mul, mul-le-mul_left, one-mul, mul-one, arith}
use Rattle.std.proofs.lemmas.Bool.Decides.{nat_tests}
use Rattle.std.proofs.lemmas.Bool.{cases_lt}
use Rattle.std.proofs.lemmas.Grind.{div_ceil_times}
use Rattle.stats.specs.declared.exactness.Precision.{Precision}
use Rattle.stats.specs.declared.exactness.Precision.TheVariants.{Exact, Inexact, Absent}
use Rattle.stats.specs.Precisions.{known, AtMost}
use Rattle.stats.specs.Scaling.{ceiling, part_of, scaled, Scales}

module _ (a b : ℕ) (B : 0 < b) where
  pub enough : a ≤ ceiling a b * b
  enough = (div_ceil_times a b B).0

  pub least : (j : ℕ) → a ≤ j * b → ceiling a b ≤ j
  least j h =
      ⊎_elim
      (λ l.
      let u : ceiling a b * b < a + b = (div_ceil_times a b B).1 in
      let m : (j + 1) * b ≤ ceiling a b * b = mul-le-mul_right b (omega arith) in
      omega (arith, add-mul j 1 b, one-mul b))
      (λ l. l)
      (cases_lt j (ceiling a b))

-- a part of no more rows: at most the whole count
pub part_fewer : (c n m : ℕ) → 0 < n → m ≤ n → ceiling (c * m) n ≤ c
part_fewer c n m N h = least (c * m) n N c (mul-le-mul_left c h)

-- rounding up does not pass the number that is divided
pub ceiling_le : (a b : ℕ) → 0 < b → ceiling a b ≤ a
ceiling_le a b B = least a b B a (let m : a * 1 ≤ a * b = mul-le-mul_left a B in omega (arith, mul-one a))

module _ (c n m : ℕ) where
  part_none : n ≡ 0 → part_of c n m ≡ Inexact 0
  part_none z = grind (arith, nat_tests)

  part_some : 0 < n → ceiling (c * m) n < 2 ^ 64 → part_of c n m ≡ Inexact (ceiling (c * m) n)
  part_some N f = grind (arith, nat_tests)

  part_known : (k : ℕ) → 0 < n → known (part_of c n m) ≡ Some k → k ≡ ceiling (c * m) n
  part_known k N e = grind (arith, nat_tests)

  part_fits : c * m < 2 ^ 64 → part_of c n m ≡ Absent → ⊥
  part_fits f e =
      ⊎_elim
      (λ N. let l = ceiling_le (c * m) n N in let s = part_some N (omega arith) in cc)
      (λ N. let s = part_none (omega arith) in cc)
      (cases_lt 0 n)

  part_at_most : m ≤ n → AtMost c (part_of c n m)
  part_at_most h =
      ⊎_elim
      (λ N. let l = part_fewer c n m N h in grind (arith, nat_tests))
      (λ N. rw (part_none (omega arith)) (omega arith))
      (cases_lt 0 n)

  scales_one : (count : Precision ℕ) → known count ≡ Some c → Scales count n m (part_of c n m)
  scales_one count is = record {
    enough = λ c' k e N q. let i : c' ≡ c = cc in let s = part_known k N q in rw (i, s) (enough (c * m) n N);
    least = λ c' k j e N q h. let i : c' ≡ c = cc in let s = part_known k N q in rw s (least (c * m) n N j (rw i at h));
    fits = λ c' e f. let i : c' ≡ c = cc in part_fits (rw i at f);
    fewer = λ c' e h. let i : c' ≡ c = cc in rw i (part_at_most h);
  }

pub scales : (count : Precision ℕ) (n m : ℕ) → Scales count n m (scaled count n m)
scales (Exact c) n m = scales_one c n m (Exact c) refl
scales (Inexact c) n m = scales_one c n m (Inexact c) refl
scales Absent n m = record {
  enough = λ c k e. cc;
  least = λ c k j e. cc;
  fits = λ c e. cc;
  fewer = λ c e. cc;
}
