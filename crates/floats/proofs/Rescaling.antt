-- Rescaling to no more rows gives no more bytes, and to as many rows the same:
-- the quotient lies within a quarter of the bytes. Assumes nothing.
use Rattle.std.proofs.Common.{◌≡◌, ℕ, zero, suc, ◌+◌, ◌*◌, ◌^◌, ◌<◌, ◌≤◌, true, false, sym, refl, ap, ◌∙◌, subst, zero-le, le_trans, le_of_eq, le_refl, le_of_suc-le-suc, lt_of_le_of_lt, le_of_lt, mul-le-mul_right, mul_assoc, suc-mul, div-lt_iff_lt-mul, add-mul, mul-le-mul, le_antisymm, mul-le-mul_left, mul-pos, one-mul, le-div_iff_mul-le, mul_left_comm, arith, lit<, lit≤, pow_pos}
use lib.Ieee.{Float, nan, inf, fin, binary64, up, down, to_unsigned, round, mul, div}
use lib.Ieee.Fits.{down_pos}
use lib.Ieee.Exact.{HasValue, round_exact}
use lib.Ieee.Scale.{grid, round_val}
use lib.Ieee.Scale.{round_under as not-above}
use Rattle.std.specs.Float.{round_with, float_round, ratio_round_half_up}
use Rattle.floats.specs.Counts.{float, rescaled}
use Rattle.floats.proofs.Fractions.{Under, Over, float_value, finite_under, round_under, round_over, mul_at, div_at}
use Rattle.floats.proofs.Upto.{back}
use Rattle.floats.proofs.Rounding.{relative_error}

-- ---- halves up: what is within a quarter of b goes to b
half_upper : (n d b : ℕ) → 0 < d → n * 4 ≤ (4 * b + 1) * d → ratio_round_half_up n d ≤ b
half_upper n d b D h =
    let e : (4 * b + 1) * d ≡ 4 * (b * d) + d = add-mul (4 * b) 1 d ∙ (λ i. mul_assoc 4 b d i + one-mul d i) in
    let g : suc b * (2 * d) ≡ 2 * (b * d) + 2 * d = suc-mul b (2 * d) ∙ ap (λ (x : ℕ). x + 2 * d) (mul_left_comm b 2 d) in
    le_of_suc-le-suc ((div-lt_iff_lt-mul {k = 2 * d} (omega arith)).1 (omega arith))

half_lower : (n d b t : ℕ) → 0 < d → t + 1 ≡ 4 * b → t * d ≤ n * 4 → b ≤ ratio_round_half_up n d
half_lower n d b t D q h =
    let e : t * d + d ≡ 4 * (b * d) = ap (λ (x : ℕ). t * d + x) (sym (one-mul d)) ∙ sym (add-mul t 1 d) ∙ ap (λ (x : ℕ). x * d) q ∙ mul_assoc 4 b d in
    let g : b * (2 * d) ≡ 2 * (b * d) = mul_left_comm b 2 d in
    (le-div_iff_mul-le {k = 2 * d} (omega arith)).1 (omega arith)

-- ---- a whole number of quarters below 2 ^ 53 is a float
quarters : (q : ℕ) → q < 2 ^ 53 → HasValue (round binary64 false q 4) false q 4
quarters q h = round_exact binary64 false q 4 q 1072 (lit< tt) h (lt_of_le_of_lt (mul-le-mul_right (2 ^ 1072) (le_of_lt h)) (lit< tt)) (sym (mul_assoc q (2 ^ 1072) 4))

greatest : HasValue (round binary64 false (2 ^ 68) 1) false (2 ^ 68) 1
greatest = round_exact binary64 false (2 ^ 68) 1 1 1142 (lit< tt) (lit< tt) (lit< tt) refl

-- ---- the product, in units of 2 ^ -1074
abbrev product : ℕ → ℕ → ℕ
product b n = grid binary64 (b * n) 1

product_value : (b n : ℕ) → b ≤ 2 ^ 39 → n ≤ 2 ^ 29 → HasValue (mul binary64 (float b) (float n)) false (product b n) (2 ^ 1074)
product_value b n B N =
    let is = mul_at binary64 (float b) (float n) b 1 n 1 (lit< tt) (lit< tt) (float_value b (omega arith)) (float_value n (omega arith)) in
    let u : b * n ≤ 2 ^ 68 = mul-le-mul B N in
    let fine = finite_under (2 ^ 68) 1 _ (round_under binary64 (b * n) 1 (2 ^ 68) 1 (lit< tt) (lit< tt) greatest (omega arith)) in
    subst (λ (x : Float). HasValue x false (product b n) (2 ^ 1074)) (sym is) (round_val binary64 (b * n) 1 (not-above binary64 (b * n) 1 fine))

-- ---- the quotient
quotient_is : (b o n : ℕ) → 0 < o → b ≤ 2 ^ 39 → o ≤ 2 ^ 29 → n ≤ 2 ^ 29 → div binary64 (mul binary64 (float b) (float n)) (float o) ≡ round binary64 false (product b n * 1) (o * 2 ^ 1074)
quotient_is b o n O B P N = div_at binary64 (mul binary64 (float b) (float n)) (float o) (product b n) (2 ^ 1074) o 1 (pow_pos 1074) O (lit< tt) (product_value b n B N) (float_value o (omega arith))

-- G / L is the product's float, N / L the product
upper : (G N L o b : ℕ) → 0 < o → 2 ^ 52 ≤ L → b ≤ 2 ^ 39 → N ≤ b * (o * L) → G * 1 * 2 * 2 ^ 52 ≤ N * 2 * 2 ^ 52 + (N + 1 * 2 ^ 52) → G * 1 * 4 ≤ (4 * b + 1) * (o * L)
upper G N L o b O H B h g =
    let l : 1 * L ≤ o * L = mul-le-mul_right L O in
    let w : b * (o * L) ≤ 2 ^ 39 * (o * L) = mul-le-mul_right (o * L) B in
    let e : (4 * b + 1) * (o * L) ≡ 4 * (b * (o * L)) + o * L = add-mul (4 * b) 1 (o * L) ∙ (λ i. mul_assoc 4 b (o * L) i + one-mul (o * L) i) in
    omega arith

lower : (G N L o b t : ℕ) → 0 < o → 2 ^ 52 ≤ L → b ≤ 2 ^ 39 → t + 1 ≡ 4 * b → N ≡ b * (o * L) → N * 2 * 2 ^ 52 ≤ G * 1 * 2 * 2 ^ 52 + (N + 1 * 2 ^ 52) → t * (o * L) ≤ G * 1 * 4
lower G N L o b t O H B q h g =
    let l : 1 * L ≤ o * L = mul-le-mul_right L O in
    let w : b * (o * L) ≤ 2 ^ 39 * (o * L) = mul-le-mul_right (o * L) B in
    let e : t * (o * L) + o * L ≡ 4 * (b * (o * L)) = ap (λ (x : ℕ). t * (o * L) + x) (sym (one-mul (o * L))) ∙ sym (add-mul t 1 (o * L)) ∙ ap (λ (x : ℕ). x * (o * L)) q ∙ mul_assoc 4 b (o * L) in
    omega arith

quotient_under : (b o n : ℕ) → 0 < o → b ≤ 2 ^ 39 → o ≤ 2 ^ 29 → n ≤ 2 ^ 29 → n ≤ o → Under (4 * b + 1) 4 (div binary64 (mul binary64 (float b) (float n)) (float o))
quotient_under b o n O B P N h =
    subst (Under (4 * b + 1) 4) (sym (quotient_is b o n O B P N))
    (round_under binary64 (product b n * 1) (o * 2 ^ 1074) (4 * b + 1) 4 (mul-pos O (pow_pos 1074)) (lit< tt) (quarters (4 * b + 1) (omega arith))
    (upper (product b n) (b * n * 2 ^ 1074) (2 ^ 1074) o b O (lit≤ tt) B (le_trans (mul-le-mul_right (2 ^ 1074) (mul-le-mul_left b h)) (le_of_eq (mul_assoc b o (2 ^ 1074)))) (relative_error binary64 (b * n) 1 (lit< tt)).0))

quotient_over : (b o t : ℕ) → 0 < o → b ≤ 2 ^ 39 → o ≤ 2 ^ 29 → t + 1 ≡ 4 * b → Over t 4 (div binary64 (mul binary64 (float b) (float o)) (float o))
quotient_over b o t O B P q =
    subst (Over t 4) (sym (quotient_is b o o O B P P))
    (round_over binary64 (product b o * 1) (o * 2 ^ 1074) t 4 (mul-pos O (pow_pos 1074)) (lit< tt) (quarters t (omega arith))
    (lower (product b o) (b * o * 2 ^ 1074) (2 ^ 1074) o b t O (lit≤ tt) B q (mul_assoc b o (2 ^ 1074)) (relative_error binary64 (b * o) 1 (lit< tt)).1))

-- ---- to the whole number
away_upper : (x : Float) (b : ℕ) → b ≤ 2 ^ 39 → Under (4 * b + 1) 4 x → to_unsigned 64 (float_round binary64 x) ≤ b
unfolding round_with
away_upper nan b B u = absurd u
away_upper (inf s) b B u = absurd u
away_upper (fin true m e) b B u = absurd u
away_upper (fin false m e) b B u =
    let k = half_upper (m * up e) (down e) b (down_pos e) u in
    le_trans (le_of_eq (back (ratio_round_half_up (m * up e) (down e)) (le_trans k (le_trans B (lit≤ tt))))) k

away_lower : (x : Float) (b t : ℕ) → b ≤ 2 ^ 39 → t + 1 ≡ 4 * b → Under (4 * b + 1) 4 x → Over t 4 x → b ≤ to_unsigned 64 (float_round binary64 x)
unfolding round_with
away_lower nan b t B q u v = absurd u
away_lower (inf s) b t B q u v = absurd u
away_lower (fin true m e) b t B q u v = absurd u
away_lower (fin false m e) b t B q u v =
    let k = half_upper (m * up e) (down e) b (down_pos e) u in
    le_trans (half_lower (m * up e) (down e) b t (down_pos e) q v) (le_of_eq (sym (back (ratio_round_half_up (m * up e) (down e)) (le_trans k (le_trans B (lit≤ tt))))))

pub rescaled_fewer : (b o n : ℕ) → 0 < o → b ≤ 2 ^ 39 → o ≤ 2 ^ 29 → n ≤ 2 ^ 29 → n ≤ o → rescaled b o n ≤ b
rescaled_fewer b o n O B P N h = away_upper _ b B (quotient_under b o n O B P N h)

no_fewer : (b o : ℕ) → 0 < o → b ≤ 2 ^ 39 → o ≤ 2 ^ 29 → b ≤ rescaled b o o
no_fewer zero o O B P = zero-le
no_fewer (suc b) o O B P =
    let t = 4 * b + 3 in
    let q : t + 1 ≡ 4 * suc b = omega arith in
    away_lower _ (suc b) t B q (quotient_under (suc b) o o O B P P (le_refl o)) (quotient_over (suc b) o t O B P q)

pub rescaled_same : (b o : ℕ) → 0 < o → b ≤ 2 ^ 39 → o ≤ 2 ^ 29 → rescaled b o o ≡ b
rescaled_same b o O B P = le_antisymm (rescaled_fewer b o o O B P P (le_refl o)) (no_fewer b o O B P)
