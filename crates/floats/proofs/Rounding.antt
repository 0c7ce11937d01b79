-- How far a rounded fraction can be from the fraction. Assumes nothing.
use Rattle.std.proofs.Common.{◌≡◌, ℕ, suc, ◌+◌, ◌-◌, ◌*◌, ◌/◌, ◌%◌, ◌^◌, ◌<◌, ◌≤◌, not, T, eqb, sym, ap, ◌∙◌, subst, inl, inr, le_trans, le_of_eq, mul-le-mul_right, mod-lt, mul_assoc, suc-mul, mul_comm, add-mul, eq-zero-or-pos, mul-pos, div-add-mod', le-div_iff_mul-le, mul-one, arith, eqb→eq, leb→le, pow_pos, pow-add}
use Prim.Native.Nat.{compare, Ordering}
use lib.Dec.{is_le, compare_is_eq, nleb→lt, eqb_refl}
use lib.Arith.{lt_of_le-ne}
use lib.Ieee.{Format, prec, low, size, nearest}
use lib.Ieee.Digits.{size_reaches}
use lib.Ieee.Fits.{two, two-le_pos}
use lib.Ieee.Nearest.{closest}
use lib.Ieee.Order.{drop}
use lib.Ieee.Scale.{grid}

-- ---- what `compare` says
abbrev Cmp : Ordering → ℕ → ℕ → Type 0
Cmp Ordering.lt a b = a < b
Cmp Ordering.eq a b = a ≡ b
Cmp Ordering.gt a b = b < a

cmp : (a b : ℕ) → Cmp (compare a b) a b
cmp a b = go (compare a b) (leb→le a b) (nleb→lt a b) (eqb→eq a b) (λ (e : a ≡ b). subst (λ (x : ℕ). T (eqb a x)) e (eqb_refl a))
  where
    go : (o : Ordering) → (T (is_le o) → a ≤ b) → (T (not (is_le o)) → b < a) → (T (compare_is_eq o) → a ≡ b) → (a ≡ b → T (compare_is_eq o)) → Cmp o a b
    go Ordering.lt h k e n = lt_of_le-ne (h tt) n
    go Ordering.eq h k e n = e tt
    go Ordering.gt h k e n = k tt

-- ---- the nearest whole number to a / u is within a half
nearest_half : (q r u : ℕ) (o : Ordering) → Cmp o (r * 2) u → r < u → (nearest q o * u * 2 ≤ (q * u + r) * 2 + u) × ((q * u + r) * 2 ≤ nearest q o * u * 2 + u)
nearest_half q r u Ordering.lt x h = (omega arith, omega arith)
nearest_half q r u Ordering.eq x h =
    let t : q % 2 * u ≤ 1 * u = mul-le-mul_right u (omega arith) in
    let s : (q + q % 2) * u ≡ q * u + q % 2 * u = add-mul q (q % 2) u in
    (omega arith, omega arith)
nearest_half q r u Ordering.gt x h = let s : suc q * u ≡ q * u + u = suc-mul q u in (omega arith, omega arith)

closest_half : (a u : ℕ) → 0 < u → (closest a u * u * 2 ≤ a * 2 + u) × (a * 2 ≤ closest a u * u * 2 + u)
closest_half a u U =
    subst (λ (x : ℕ). (closest a u * u * 2 ≤ x * 2 + u) × (x * 2 ≤ closest a u * u * 2 + u)) (div-add-mod' a u)
    (nearest_half (a / u) (a % u) u (compare (a % u * 2) u) (cmp (a % u * 2) u) (mod-lt a U))

-- ---- in units of the format's smallest number: within half of the last place, which is 2 ^ drop units
abbrev last : Format → ℕ → ℕ → ℕ
last f a c = 2 ^ drop (prec f) (a * 2 ^ low f) c

grid_half : (f : Format) (a c : ℕ) → 0 < c → (grid f a c * c * 2 ≤ a * 2 ^ low f * 2 + c * last f a c) × (a * 2 ^ low f * 2 ≤ grid f a c * c * 2 + c * last f a c)
grid_half f a c C =
    let n = a * 2 ^ low f in
    let u = last f a c in
    let h = closest_half n (c * u) (mul-pos C (pow_pos (drop (prec f) n c))) in
    let e : closest n (c * u) * (c * u) ≡ closest n (c * u) * u * c = ap (λ (x : ℕ). closest n (c * u) * x) (mul_comm c u) ∙ sym (mul_assoc (closest n (c * u)) u c) in
    subst (λ (x : ℕ). (x * 2 ≤ n * 2 + c * u) × (n * 2 ≤ x * 2 + c * u)) e h

-- ---- 2 ^ (p - 1) last places are at most the number, or the last place is one unit
above : (z p : ℕ) → 0 < p → 0 < z - p → p - 1 + (z - p) < z
above z p P h = omega arith

plus : (x y z : ℕ) → x ≤ y → x ≤ y + z
plus x y z h = omega arith

last_place : (p n c : ℕ) → 0 < p → 0 < c → c * 2 ^ drop p n c * 2 ^ (p - 1) ≤ n + c * 2 ^ (p - 1)
last_place p n c P C =
    let k = drop p n c in
    elim (eq-zero-or-pos k) [
      | inl z ↦ subst (λ (x : ℕ). c * 2 ^ x * 2 ^ (p - 1) ≤ n + c * 2 ^ (p - 1)) (sym z) (omega (arith, mul-one c))
      | inr K ↦
          let a : 2 ^ (p - 1 + k) * c ≤ n = (le-div_iff_mul-le C).0 (size_reaches (n / c) (p - 1 + k) (above (size (n / c)) p P K)) in
          let e : c * 2 ^ k * 2 ^ (p - 1) ≡ 2 ^ (p - 1 + k) * c = mul_assoc c (2 ^ k) (2 ^ (p - 1)) ∙ ap (λ (x : ℕ). c * x) (mul_comm (2 ^ k) (2 ^ (p - 1)) ∙ sym (pow-add 2 (p - 1) k)) ∙ mul_comm c (2 ^ (p - 1 + k)) in
          plus (c * 2 ^ k * 2 ^ (p - 1)) n (c * 2 ^ (p - 1)) (le_trans (le_of_eq e) a)
    ]

widen : (x y z w : ℕ) → x ≤ y + z → z ≤ w → x ≤ y + w
widen x y z w h k = omega arith

-- ---- the error is at most the fraction times 2 ^ -p, and half a unit
pub relative_error : (f : Format) (a c : ℕ) → 0 < c → let n = a * 2 ^ low f in let h = 2 ^ (prec f - 1) in (grid f a c * c * 2 * h ≤ n * 2 * h + (n + c * h)) × (n * 2 * h ≤ grid f a c * c * 2 * h + (n + c * h))
relative_error f a c C =
    let n = a * 2 ^ low f in
    let h = 2 ^ (prec f - 1) in
    let u = last_place (prec f) n c (two-le_pos (prec f) (two f)) C in
    let g = grid_half f a c C in
    let x : grid f a c * c * 2 * h ≤ n * 2 * h + c * last f a c * h = le_trans (mul-le-mul_right h g.0) (le_of_eq (add-mul (n * 2) (c * last f a c) h)) in
    let y : n * 2 * h ≤ grid f a c * c * 2 * h + c * last f a c * h = le_trans (mul-le-mul_right h g.1) (le_of_eq (add-mul (grid f a c * c * 2) (c * last f a c) h)) in
    (widen _ (n * 2 * h) _ _ x u, widen _ (grid f a c * c * 2 * h) _ _ y u)
