-- What the operations on a Precision answer. Assumes nothing.
use Rattle.std.specs.Prelude.{ℕ, ◌+◌, ◌-◌, ◌^◌, ◌≤◌, min, Bool, true, cond, List, [], ◌∷◌, Some, None, Option, IsSomeAnd, nat_le, nat_lt}
use Rattle.std.specs.Fmt.{option_append}
use Rattle.stats.specs.declared.exactness.Precision.{Precision}
use Rattle.stats.specs.declared.exactness.Precision.TheVariants.{Exact, Inexact, Absent}

abbrev pub inexact : {T : Type 0} → Precision T → Precision T
inexact (Exact v) = Inexact v
inexact (Inexact v) = Inexact v
inexact Absent = Absent

-- the value, where it is known
abbrev pub known : {T : Type 0} → Precision T → Option T
known (Exact v) = Some v
known (Inexact v) = Some v
known Absent = None

-- op of two values: Absent if either is, Exact if both are, otherwise Inexact
abbrev pub both : {S T U : Type 0} → (S → T → U) → Precision S → Precision T → Precision U
both op (Exact a) (Exact b) = Exact (op a b)
both op (Exact a) (Inexact b) = Inexact (op a b)
both op (Exact a) Absent = Absent
both op (Inexact a) (Exact b) = Inexact (op a b)
both op (Inexact a) (Inexact b) = Inexact (op a b)
both op (Inexact a) Absent = Absent
both op Absent q = Absent

abbrev pub paired : {S T : Type 0} → Precision S → Precision T → Precision (S × T)
paired = both (λ a b. (a, b))

-- q is as exact as p, and R holds of p's value and what became of it: q's value,
-- or nothing, and then q is Absent
abbrev pub FilterMapped : {T U : Type 0} → (T → Option U → Type 0) → Precision T → Precision U → Type 0
FilterMapped R (Exact v) (Exact w) = R v (Some w)
FilterMapped R (Exact v) (Inexact w) = ⊥
FilterMapped R (Exact v) Absent = R v None
FilterMapped R (Inexact v) (Exact w) = ⊥
FilterMapped R (Inexact v) (Inexact w) = R v (Some w)
FilterMapped R (Inexact v) Absent = R v None
FilterMapped R Absent (Exact w) = ⊥
FilterMapped R Absent (Inexact w) = ⊥
FilterMapped R Absent Absent = Unit {0}

-- the same, where each value becomes one
abbrev pub Mapped : {T U : Type 0} → (T → U → Type 0) → Precision T → Precision U → Type 0
Mapped R p q = FilterMapped (λ v o. IsSomeAnd o (R v)) p q

-- a number that passes 64 bits stops at their greatest, and is then not exact
abbrev pub stopping : Precision ℕ → Precision ℕ
stopping (Exact n) = cond (nat_lt n (2 ^ 64)) (Exact n) (Inexact (2 ^ 64 - 1))
stopping (Inexact n) = Inexact (min n (2 ^ 64 - 1))
stopping Absent = Absent

abbrev pub total : Precision ℕ → Precision ℕ → Precision ℕ
total p q = stopping (both ◌+◌ p q)

-- a count above n becomes Inexact n
abbrev pub capped : ℕ → Precision ℕ → Precision ℕ
capped n (Exact v) = cond (nat_le v n) (Exact v) (Inexact n)
capped n (Inexact v) = cond (nat_le v n) (Inexact v) (Inexact n)
capped n Absent = Absent

-- the value, and 0 for Absent
abbrev pub or_zero : Precision ℕ → ℕ
or_zero (Exact v) = v
or_zero (Inexact v) = v
or_zero Absent = 0

-- a present value is at most n
abbrev pub AtMost : ℕ → Precision ℕ → Type 0
AtMost n (Exact v) = v ≤ n
AtMost n (Inexact v) = v ≤ n
AtMost n Absent = Unit {0}

-- the same, as a test
abbrev pub at_most : ℕ → Precision ℕ → Bool
at_most n (Exact v) = nat_le v n
at_most n (Inexact v) = nat_le v n
at_most n Absent = true

-- the bytes of =5, ~5 and -
abbrev pub shown_as : {T : Type 0} → (T → Option (List ℕ)) → Precision T → Option (List ℕ)
shown_as text (Exact v) = option_append (Some (61 ∷ [])) (text v)
shown_as text (Inexact v) = option_append (Some (126 ∷ [])) (text v)
shown_as text Absent = Some (45 ∷ [])
