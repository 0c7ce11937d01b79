-- Floats that are not negative, held against fractions: what rounding, a
-- product and a quotient keep. Assumes nothing.
use Rattle.std.proofs.Common.{◌≡◌, ℕ, zero, suc, ◌+◌, ◌*◌, ◌^◌, ◌<◌, ◌≤◌, Bool, true, false, cond, ◌&&◌, ◌||◌, T, eqb, ltb, ◌⊎◌, sym, refl, ap, ◌∙◌, subst, inl, inr, true≢false, le_of_eq, le_of_lt, lt_irrefl, mul_assoc, mul_comm, mul-pos, zero-mul, mul_left_comm, arith, eqb→eq, ltb→lt}
use Prim.Native.Nat.compare
use Prim.Native.Nat.{Ordering}
use native.Mathlib.Nat.{mul-mul-mul_comm}
use lib.Dec.{compare_is_eq}
use lib.Ieee.{Float, nan, inf, fin, Format, binary64, prec, emax, low, up, down, odd, units, of_int, round, mul, div, le}
use lib.Ieee.Fits.{up_pos, down_pos, and_l, round_is}
use lib.Ieee.Exact.{HasValue}
use lib.Ieee.Order.{round_mono, transfer}
use lib.Ieee.Scale.{round_same, finite}
use lib.Ieee.Back.{round_whole}
use Rattle.floats.specs.Counts.{float}

-- ---- a whole number up to 2 ^ 53 is a float
pub float_value : (n : ℕ) → n ≤ 2 ^ 53 → HasValue (float n) false n 1
unfolding of_int
float_value n h = round_whole binary64 false n h

-- ---- a rounded fraction is not negative
abbrev pub NonNeg : Float → Type 0
NonNeg nan = ⊥
NonNeg (inf true) = ⊥
NonNeg (inf false) = Unit {0}
NonNeg (fin true m e) = ⊥
NonNeg (fin false m e) = Unit {0}

nonneg_odd : (d q k l : ℕ) → NonNeg (odd d false q k l)
unfolding odd
nonneg_odd d zero k l = tt
nonneg_odd d (suc q) k l = tt

nonneg_units : (f : Format) (q k : ℕ) → NonNeg (units f false q k)
unfolding units
nonneg_units f q k = go (ltb (q * 2 ^ k) (2 ^ (low f + suc (emax f))))
  where
    go : (b : Bool) → NonNeg (cond b (odd (suc (prec f)) false q k (low f)) (inf false))
    go true = nonneg_odd (suc (prec f)) q k (low f)
    go false = tt

pub nonneg_round : (f : Format) (a c : ℕ) → NonNeg (round f false a c)
nonneg_round f a c = subst NonNeg (sym (round_is f false a c)) (nonneg_units f _ _)

-- ---- a product and a quotient, by any fractions that the operands equal
pub mul_at : (f : Format) (x y : Float) (a c b d : ℕ) → 0 < c → 0 < d → HasValue x false a c → HasValue y false b d → mul f x y ≡ round f false (a * b) (c * d)
unfolding mul
mul_at f nan y a c b d C D p q = absurd p
mul_at f (inf s) y a c b d C D p q = absurd p
mul_at f (fin true m e) y a c b d C D p q = absurd (true≢false p.0)
mul_at f (fin false m e) nan a c b d C D p q = absurd q
mul_at f (fin false m e) (inf t) a c b d C D p q = absurd q
mul_at f (fin false m e) (fin true n g) a c b d C D p q = absurd (true≢false q.0)
mul_at f (fin false m e) (fin false n g) a c b d C D p q =
    round_same f false (m * up e * (n * up g)) (down e * down g) (a * b) (c * d) (mul-pos (down_pos e) (down_pos g)) (mul-pos C D)
    (mul-mul-mul_comm (m * up e) (n * up g) c d ∙ ap (λ (z : ℕ). z * (n * up g * d)) p.1 ∙ ap (λ (z : ℕ). a * down e * z) q.1 ∙ mul-mul-mul_comm a (down e) b (down g))

not_zero : (n : ℕ) (x y : Float) → cond (eqb (suc n) 0) x y ≡ y
not_zero n x y = ap (λ (o : Ordering). cond (compare_is_eq o) x y) (compare.suc-zero n)

crossed : (x g b c a e y d : ℕ) → x * c ≡ a * e → y * d ≡ b * g → x * g * (b * c) ≡ a * d * (y * e)
crossed x g b c a e y d p q =
    let l : x * g * (b * c) ≡ x * c * (b * g) = simp (mul_assoc, mul_comm, mul_left_comm) in
    let r : a * e * (y * d) ≡ a * d * (y * e) = simp (mul_assoc, mul_comm, mul_left_comm) in
    l ∙ ap (λ (z : ℕ). z * (b * g)) p ∙ ap (λ (z : ℕ). a * e * z) (sym q) ∙ r

pub div_at : (f : Format) (x y : Float) (a c b d : ℕ) → 0 < c → 0 < b → 0 < d → HasValue x false a c → HasValue y false b d → div f x y ≡ round f false (a * d) (b * c)
unfolding div
div_at f nan y a c b d C B D p q = absurd p
div_at f (inf s) y a c b d C B D p q = absurd p
div_at f (fin true m e) y a c b d C B D p q = absurd (true≢false p.0)
div_at f (fin false m e) nan a c b d C B D p q = absurd q
div_at f (fin false m e) (inf t) a c b d C B D p q = absurd q
div_at f (fin false m e) (fin true n g) a c b d C B D p q = absurd (true≢false q.0)
div_at f (fin false m e) (fin false zero g) a c b d C B D p q =
    absurd (lt_irrefl 0 (subst (λ (z : ℕ). 0 < z) (sym q.1 ∙ ap (λ (z : ℕ). z * d) (zero-mul (up g)) ∙ zero-mul d) (mul-pos B (down_pos g))))
div_at f (fin false m e) (fin false (suc n) g) a c b d C B D p q =
    not_zero n _ _ ∙
    round_same f false (m * up e * down g) (suc n * up g * down e) (a * d) (b * c) (mul-pos (mul-pos (omega arith) (up_pos g)) (down_pos e)) (mul-pos B C)
    (crossed (m * up e) (down g) b c a (down e) (suc n * up g) d p.1 q.1)

-- ---- finite, not negative, and at most K / D; at least K / D
abbrev pub Under : ℕ → ℕ → Float → Type 0
Under K D nan = ⊥
Under K D (inf s) = ⊥
Under K D (fin true m e) = ⊥
Under K D (fin false m e) = m * up e * D ≤ K * down e

abbrev pub Over : ℕ → ℕ → Float → Type 0
Over K D nan = ⊥
Over K D (inf true) = ⊥
Over K D (inf false) = Unit {0}
Over K D (fin true m e) = ⊥
Over K D (fin false m e) = K * down e ≤ m * up e * D

pub finite_under : (K D : ℕ) (x : Float) → Under K D x → T (finite x)
finite_under K D nan p = absurd p
finite_under K D (inf s) p = absurd p
finite_under K D (fin s m e) p = tt

or_split : (a b : Bool) → T (a || b) → T a ⊎ T b
or_split true b t = inl tt
or_split false b t = inr t

lt_or_eq : (a b : ℕ) → T (ltb a b || (eqb a b && true)) → a ≤ b
lt_or_eq a b t = elim (or_split (ltb a b) (eqb a b && true) t) [ inl u ↦ le_of_lt (ltb→lt a b u) | inr u ↦ le_of_eq (eqb→eq a b (and_l (eqb a b) true u)) ]

pub below_value : (x y : Float) (K D : ℕ) → 0 < D → NonNeg x → HasValue y false K D → T (le x y) → Under K D x
unfolding le
below_value nan y K D P p q h = absurd p
below_value (inf true) y K D P p q h = absurd p
below_value (inf false) nan K D P p q h = absurd q
below_value (inf false) (inf t) K D P p q h = absurd q
below_value (inf false) (fin t n d) K D P p q h = absurd h
below_value (fin true m e) y K D P p q h = absurd p
below_value (fin false m e) nan K D P p q h = absurd q
below_value (fin false m e) (inf t) K D P p q h = absurd q
below_value (fin false m e) (fin true n d) K D P p q h = absurd (true≢false q.0)
below_value (fin false m e) (fin false n d) K D P p q h =
    transfer (m * up e) K (down e) D (m * up e) (n * up d) (down e) (down d) (down_pos e) (down_pos d) refl (sym q.1) (lt_or_eq (m * up e * down d) (n * up d * down e) h)

above_value : (x y : Float) (K D : ℕ) → 0 < D → NonNeg x → HasValue y false K D → T (le y x) → Over K D x
unfolding le
above_value nan y K D P p q h = absurd p
above_value (inf true) y K D P p q h = absurd p
above_value (inf false) y K D P p q h = tt
above_value (fin true m e) y K D P p q h = absurd p
above_value (fin false m e) nan K D P p q h = absurd q
above_value (fin false m e) (inf t) K D P p q h = absurd q
above_value (fin false m e) (fin true n d) K D P p q h = absurd (true≢false q.0)
above_value (fin false m e) (fin false n d) K D P p q h =
    transfer K (m * up e) D (down e) (n * up d) (m * up e) (down d) (down e) (down_pos d) (down_pos e) (sym q.1) refl (lt_or_eq (n * up d * down e) (m * up e * down d) h)

-- rounding keeps the order: at most, or at least, a fraction that is a float
pub round_under : (f : Format) (a c K D : ℕ) → 0 < c → 0 < D → HasValue (round f false K D) false K D → a * D ≤ K * c → Under K D (round f false a c)
round_under f a c K D C P v h = below_value (round f false a c) (round f false K D) K D P (nonneg_round f a c) v (round_mono f a c K D C P h)

pub round_over : (f : Format) (a c K D : ℕ) → 0 < c → 0 < D → HasValue (round f false K D) false K D → K * c ≤ a * D → Over K D (round f false a c)
round_over f a c K D C P v h = above_value (round f false a c) (round f false K D) K D P (nonneg_round f a c) v (round_mono f K D a c P C h)
