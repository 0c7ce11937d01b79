-- Words compare as their bytes do, first byte first. Assumes nothing.
use Rattle.std.specs.Prelude.{◌≡◌, ℕ, ◌+◌, ◌*◌, ◌/◌, ◌%◌, ◌^◌, ◌<◌, cond, nat_lt, refl}
use Rattle.std.proofs.Common.{sym, ◌∙◌, ⊎_elim, mul-le-mul_right, add-mul, arith}
use Rattle.std.proofs.lemmas.Bool.Decides.{nat_tests}
use Rattle.std.proofs.lemmas.Nat.{mod-pow-add, shr_split, mod_below, pow_pos}
use Rattle.std.proofs.lemmas.Bool.{cases_order}
use Rattle.keys.specs.declared.Relation.{Relation}
use Rattle.keys.specs.declared.Relation.TheVariants.{Before, Equal, After}
use Rattle.keys.specs.Texts.{word_bytes, byte_relation}

-- x and y decide, and where they are equal r does
abbrev first_of : ℕ → ℕ → Relation → Relation
first_of x y r = cond (nat_lt x y) Before (cond (nat_lt y x) After r)

-- the order of numbers without a sign
abbrev pub word_relation : ℕ → ℕ → Relation
word_relation a b = first_of a b Equal

below : (k a b c d : ℕ) → c < k → a < b → a * k + c < b * k + d
below k a b c d p h = let m = mul-le-mul_right {m = a + 1} {n = b} k (omega arith) in let e = add-mul a 1 k in omega arith

same_high : (k a c d : ℕ) → word_relation (a * k + c) (a * k + d) ≡ first_of a a (word_relation c d)
same_high k a c d = grind (arith, nat_tests)

-- a quotient decides before its remainder does
split : (k a b c d : ℕ) → c < k → d < k → word_relation (a * k + c) (b * k + d) ≡ first_of a b (word_relation c d)
split k a b c d p q =
    ⊎_elim (λ e. rw (← e) (same_high k a c d))
    (⊎_elim (λ h. let l = below k a b c d p h in grind (arith, nat_tests)) (λ h. let l = below k b a d c q h in grind (arith, nat_tests)))
    (cases_order a b)

module _ (a b : ℕ) where
  high : (k : ℕ) → word_relation a b ≡ first_of (a / 2 ^ k) (b / 2 ^ k) (word_relation (a % 2 ^ k) (b % 2 ^ k))
  high k =
      (λ i. word_relation (sym (shr_split a k) i) (sym (shr_split b k) i)) ∙
      split (2 ^ k) (a / 2 ^ k) (b / 2 ^ k) (a % 2 ^ k) (b % 2 ^ k) (mod_below a (2 ^ k) (pow_pos k)) (mod_below b (2 ^ k) (pow_pos k))

  next : (k : ℕ) → word_relation (a % 2 ^ (8 + k)) (b % 2 ^ (8 + k)) ≡ first_of (a / 2 ^ k % 2 ^ 8) (b / 2 ^ k % 2 ^ 8) (word_relation (a % 2 ^ k) (b % 2 ^ k))
  next k =
      (λ i. word_relation (mod-pow-add a 8 k i) (mod-pow-add b 8 k i)) ∙
      split (2 ^ k) (a / 2 ^ k % 2 ^ 8) (b / 2 ^ k % 2 ^ 8) (a % 2 ^ k) (b % 2 ^ k) (mod_below a (2 ^ k) (pow_pos k)) (mod_below b (2 ^ k) (pow_pos k))

  pub as_words : byte_relation (word_bytes a) (word_bytes b) ≡ word_relation a b
  as_words = sym (rw (high 56, next 48, next 40, next 32, next 24, next 16, next 8) refl)
