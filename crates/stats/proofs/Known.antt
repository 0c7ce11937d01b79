-- What is known of a Precision by its value. Assumes nothing.
use Rattle.std.proofs.Common.{◌≡◌, ℕ, ◌≤◌, ◌⊎◌, Some, inl, inr, arith}
use Rattle.stats.specs.declared.exactness.Precision.{Precision}
use Rattle.stats.specs.declared.exactness.Precision.TheVariants.{Exact, Inexact, Absent}
use Rattle.stats.specs.Precisions.{known, paired, AtMost}

-- p has the value v, exact or not
abbrev pub Holds : {T : Type 0} → T → Precision T → Type 0
Holds v p = (p ≡ Exact v) ⊎ (p ≡ Inexact v)

pub holds : {T : Type 0} (p : Precision T) (v : T) → known p ≡ Some v → Holds v p
holds (Exact u) v e = inl (cc)
holds (Inexact u) v e = inr (cc)
holds Absent v e = cc

pub paired_holds : {S T : Type 0} (p : Precision S) (q : Precision T) (u : S) (v : T) → Holds u p → Holds v q → Holds (u, v) (paired p q)
paired_holds p q u v (inl d) (inl e) = inl (rw (d, e))
paired_holds p q u v (inl d) (inr e) = inr (rw (d, e))
paired_holds p q u v (inr d) (inl e) = inr (rw (d, e))
paired_holds p q u v (inr d) (inr e) = inr (rw (d, e))

pub known_at_most : (p : Precision ℕ) (v n : ℕ) → known p ≡ Some v → v ≤ n → AtMost n p
known_at_most (Exact u) v n e h = let i : u ≡ v = cc in omega arith
known_at_most (Inexact u) v n e h = let i : u ≡ v = cc in omega arith
known_at_most Absent v n e h = tt
