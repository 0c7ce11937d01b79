-- Counts that are known to be 0, with their exactness; Absent where they are
-- not. Assumes nothing.
use Rattle.std.specs.Prelude.{ℕ, cond, ◌==◌}
use Rattle.stats.specs.declared.exactness.Precision.{Precision}
use Rattle.stats.specs.declared.exactness.Precision.TheVariants.{Exact, Inexact, Absent}

abbrev pub zero_of : Precision ℕ → Precision ℕ
zero_of (Exact n) = cond (n == 0) (Exact 0) Absent
zero_of (Inexact n) = cond (n == 0) (Inexact 0) Absent
zero_of Absent = Absent

-- a zero on one of two sides: Exact if one is
abbrev pub either_zero : Precision ℕ → Precision ℕ → Precision ℕ
either_zero (Exact a) q = Exact 0
either_zero (Inexact a) (Exact b) = Exact 0
either_zero (Inexact a) (Inexact b) = Inexact 0
either_zero (Inexact a) Absent = Inexact 0
either_zero Absent (Exact b) = Exact 0
either_zero Absent (Inexact b) = Inexact 0
either_zero Absent Absent = Absent

-- p, and q where p is Absent
abbrev pub or_else : Precision ℕ → Precision ℕ → Precision ℕ
or_else (Exact a) q = Exact a
or_else (Inexact a) q = Inexact a
or_else Absent q = q
