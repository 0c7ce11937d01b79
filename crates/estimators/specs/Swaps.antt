-- Operations that do not mind the order of their sides. Assumes nothing.
use Rattle.std.specs.Prelude.{◌≡◌, ℕ, ◌+◌, true, is_some, ◌≢◌, refl}
use Rattle.std.proofs.Common.{ap, add_comm}
use Rattle.stats.specs.declared.exactness.Precision.{Precision}
use Rattle.stats.specs.declared.exactness.Precision.TheVariants.{Exact, Inexact, Absent}
use Rattle.stats.specs.Precisions.{known, both, stopping, total}
use Rattle.estimators.specs.Zeros.{either_zero, or_else}

pub both_swap : {S U : Type 0} (op : S → S → U) → ((a b : S) → op a b ≡ op b a) → (p q : Precision S) → both op p q ≡ both op q p
both_swap op s (Exact a) (Exact b) = ap Exact (s a b)
both_swap op s (Exact a) (Inexact b) = ap Inexact (s a b)
both_swap op s (Exact a) Absent = refl
both_swap op s (Inexact a) (Exact b) = ap Inexact (s a b)
both_swap op s (Inexact a) (Inexact b) = ap Inexact (s a b)
both_swap op s (Inexact a) Absent = refl
both_swap op s Absent (Exact b) = refl
both_swap op s Absent (Inexact b) = refl
both_swap op s Absent Absent = refl

pub total_swap : (p q : Precision ℕ) → total p q ≡ total q p
total_swap p q = ap stopping (both_swap ◌+◌ add_comm p q)

pub either_swap : (p q : Precision ℕ) → either_zero p q ≡ either_zero q p
either_swap (Exact a) (Exact b) = refl
either_swap (Exact a) (Inexact b) = refl
either_swap (Exact a) Absent = refl
either_swap (Inexact a) (Exact b) = refl
either_swap (Inexact a) (Inexact b) = refl
either_swap (Inexact a) Absent = refl
either_swap Absent (Exact b) = refl
either_swap Absent (Inexact b) = refl
either_swap Absent Absent = refl

-- of two that are not both present it does not matter which is first
pub or_else_swap : (p q : Precision ℕ) → (is_some (known p) ≡ true → is_some (known q) ≢ true) → or_else p q ≡ or_else q p
or_else_swap (Exact a) (Exact b) h = absurd (h refl refl)
or_else_swap (Exact a) (Inexact b) h = absurd (h refl refl)
or_else_swap (Exact a) Absent h = refl
or_else_swap (Inexact a) (Exact b) h = absurd (h refl refl)
or_else_swap (Inexact a) (Inexact b) h = absurd (h refl refl)
or_else_swap (Inexact a) Absent h = refl
or_else_swap Absent (Exact b) h = refl
or_else_swap Absent (Inexact b) h = refl
or_else_swap Absent Absent h = refl
