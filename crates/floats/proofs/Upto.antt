-- Floats that are not negative and at most a whole number: what a product, a
-- quotient and a difference from 1 keep, since rounding is monotone. Assumes
-- nothing.
use Rattle.std.proofs.Common.{◌≡◌, ℕ, ◌-◌, ◌*◌, ◌^◌, ◌<◌, ◌≤◌, Bool, true, false, cond, T, ltb, ℤ, pos, sym, refl, ap, ◌∙◌, subst, true≢false, le_trans, le_of_eq, le_of_suc-le-suc, lt_of_le_of_lt, suc-mul, div-lt_iff_lt-mul, mul-le-mul, mul-pos, one-mul, mul-one, not-le_of_lt, arith, lit<, lit≤, le→leb, ltb→lt, pow_pos}
use native.Mathlib.Nat.{mul-mul-mul_comm}
use lib.Ieee.{Float, nan, inf, fin, Format, binary64, prec, up, down, of_int, in_float, to_unsigned, round, sum, mul, div, sub}
use lib.Ieee.Fits.{down_pos}
use lib.Ieee.Exact.{HasValue}
use lib.Ieee.Back.{round_whole, unsigned_back}
use Rattle.std.specs.Float.{round_with, ceil, ratio_ceil, float_one, float_zero}
use Rattle.floats.specs.Counts.{float}
use Rattle.floats.proofs.Fractions.{Under, float_value, mul_at, div_at, round_under}

abbrev pub Upto : ℕ → Float → Type 0
Upto k x = Under k 1 x

pub round_upto : (f : Format) (k a c : ℕ) → 0 < c → k ≤ 2 ^ prec f → a ≤ k * c → Upto k (round f false a c)
round_upto f k a c C K h = round_under f a c k 1 C (lit< tt) (round_whole f false k K) (omega (arith, mul-one a))

-- ---- the fraction that such a float is
abbrev num : Float → ℕ
num nan = 0
num (inf s) = 0
num (fin s m e) = m * up e

abbrev den : Float → ℕ
den nan = 1
den (inf s) = 1
den (fin s m e) = down e

den_pos : (x : Float) → 0 < den x
den_pos nan = pow_pos 0
den_pos (inf s) = pow_pos 0
den_pos (fin s m e) = down_pos e

own_value : (k : ℕ) (x : Float) → Upto k x → HasValue x false (num x) (den x)
own_value k nan p = absurd p
own_value k (inf s) p = absurd p
own_value k (fin true m e) p = absurd p
own_value k (fin false m e) p = (refl, refl)

own_bound : (k : ℕ) (x : Float) → Upto k x → num x ≤ k * den x
own_bound k nan p = absurd p
own_bound k (inf s) p = absurd p
own_bound k (fin true m e) p = absurd p
own_bound k (fin false m e) p = omega (arith, mul-one (m * up e))

-- ---- product, quotient, 1 - y
pub mul_upto : (f : Format) (j k : ℕ) (x y : Float) → j * k ≤ 2 ^ prec f → Upto j x → Upto k y → Upto (j * k) (mul f x y)
mul_upto f j k x y h p q =
    subst (Upto (j * k)) (sym (mul_at f x y (num x) (den x) (num y) (den y) (den_pos x) (den_pos y) (own_value j x p) (own_value k y q)))
    (round_upto f (j * k) (num x * num y) (den x * den y) (mul-pos (den_pos x) (den_pos y)) h
    (le_trans (mul-le-mul (own_bound j x p) (own_bound k y q)) (le_of_eq (mul-mul-mul_comm j (den x) k (den y)))))

pub div_upto : (f : Format) (k a b : ℕ) (x y : Float) → k ≤ 2 ^ prec f → 0 < b → a ≤ k * b → HasValue x false a 1 → HasValue y false b 1 → Upto k (div f x y)
div_upto f k a b x y K B h p q =
    subst (Upto k) (sym (div_at f x y a 1 b 1 (pow_pos 0) B (pow_pos 0) p q)) (round_upto f k (a * 1) (b * 1) (omega arith) K (omega arith))

pick : (f : Format) (a b c : ℕ) → b ≤ a → sum f false a true b c ≡ round f false (a - b) c
unfolding sum
pick f a b c h = go (ltb a b) (ltb→lt a b)
  where
    go : (t : Bool) → (T t → a < b) → cond t (round f true (b - a) c) (round f false (a - b) c) ≡ round f false (a - b) c
    go true k = absurd (not-le_of_lt (k tt) h)
    go false k = refl

opened : (f : Format) (m : ℕ) (e : ℤ) (n : ℕ) (d : ℤ) → sub f (fin false m e) (fin false n d) ≡ sum f false (m * up e * down d) true (n * up d * down e) (down e * down d)
unfolding sub
opened f m e n d = refl

rest_is : (f : Format) (y : Float) → Upto 1 y → sub f (fin false 1 (pos 0)) y ≡ round f false (den y - num y) (den y)
rest_is f nan p = absurd p
rest_is f (inf s) p = absurd p
rest_is f (fin true n d) p = absurd p
rest_is f (fin false n d) p =
    opened f 1 (pos 0) n d ∙ pick f (1 * 1 * down d) (n * up d * 1) (1 * down d) (omega arith)
    ∙ ap (λ (z : ℕ). round f false (z - n * up d * 1) z) (one-mul (down d)) ∙ ap (λ (z : ℕ). round f false (down d - z) (down d)) (mul-one (n * up d))

pub rest_upto : (y : Float) → Upto 1 y → Upto 1 (sub binary64 float_one y)
rest_upto y p = subst (Upto 1) (sym (rest_is binary64 y p)) (round_upto binary64 1 (den y - num y) (den y) (den_pos y) (lit≤ tt) (omega arith))

pub one_upto : Upto 1 float_one
one_upto = lit≤ tt

pub zero_upto : Upto 1 float_zero
zero_upto = lit≤ tt

-- ---- a whole number of rows times a part of them, rounded up
value_upto : (x : Float) (n : ℕ) → HasValue x false n 1 → Upto n x
value_upto nan n p = absurd p
value_upto (inf s) n p = absurd p
value_upto (fin true m e) n p = absurd (true≢false p.0)
value_upto (fin false m e) n p = omega (arith, p.1)

pub times_upto : (rows : ℕ) (s : Float) → rows ≤ 2 ^ 53 → Upto 1 s → Upto rows (mul binary64 (float rows) s)
times_upto rows s F u =
    subst (λ (k : ℕ). Upto k (mul binary64 (float rows) s)) (mul-one rows)
    (mul_upto binary64 rows 1 (float rows) s (omega arith) (value_upto (float rows) rows (float_value rows F)) u)

raised_keeps : (k n d : ℕ) → 0 < d → n ≤ k * d → ratio_ceil n d ≤ k
raised_keeps k n d D h = le_of_suc-le-suc ((div-lt_iff_lt-mul D).1 (omega (arith, suc-mul k d)))

casts : (n : ℕ) → n ≤ 2 ^ 53 → T (in_float binary64 (pos n))
unfolding in_float
casts n h = le→leb n (2 ^ 53) h

pub back : (n : ℕ) → n ≤ 2 ^ 53 → to_unsigned 64 (round binary64 false n 1) ≡ n
unfolding of_int
back n h = (unsigned_back binary64 64 n (casts n h) (lt_of_le_of_lt h (lit< tt))).1

pub ceil_upto : (k : ℕ) (x : Float) → k ≤ 2 ^ 53 → Upto k x → to_unsigned 64 (ceil binary64 x) ≤ k
unfolding round_with
ceil_upto k nan K u = absurd u
ceil_upto k (inf s) K u = absurd u
ceil_upto k (fin true m e) K u = absurd u
ceil_upto k (fin false m e) K u =
    let r = raised_keeps k (m * up e) (down e) (down_pos e) (omega (arith, mul-one (m * up e))) in
    le_trans (le_of_eq (back (ratio_ceil (m * up e) (down e)) (le_trans r K))) r
