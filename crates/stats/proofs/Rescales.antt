-- The laws of rescaled bytes with their exactness. Assumes nothing.
use Rattle.std.proofs.Common.{◌≡◌, ℕ, ◌<◌, ◌≤◌, Some, ap, ◌∙◌, inl, inr, ⊎_elim, arith}
use Rattle.std.proofs.lemmas.Bool.Decides.{nat_tests}
use Rattle.std.proofs.lemmas.Bool.{cases_eq, eq-eqb}
use Rattle.stats.specs.declared.exactness.Precision.{Precision}
use Rattle.stats.specs.Precisions.{known, paired, AtMost}
use Rattle.floats.specs.Counts.{rescaled}
use Rattle.floats.proofs.Rescaling.{rescaled_fewer, rescaled_same}
use Rattle.stats.specs.Bytes.{rescaled_bytes, Usual, Rescales}
use Rattle.stats.proofs.Known.{Holds, holds, paired_holds, known_at_most}

module _ (bytes old new : Precision ℕ) (b o n : ℕ) (u : Usual bytes old new b o n) where
  all_known : Holds (b, (o, n)) (paired bytes (paired old new))
  all_known = paired_holds bytes (paired old new) b (o, n) (holds bytes b u.bytes_are) (paired_holds old new o n (holds old o u.old_are) (holds new n u.new_are))

  -- the bytes stay, or they are rescaled
  stays : o ≡ 0 → rescaled_bytes bytes old new ≡ bytes
  stays z = elim all_known [ inl e ↦ rw (e, eq-eqb o 0 z) | inr e ↦ rw (e, eq-eqb o 0 z) ]

  value : 0 < o → known (rescaled_bytes bytes old new) ≡ Some (rescaled b o n)
  value h =
      elim all_known [
        | inl e ↦ rw e (grind (arith, nat_tests))
        | inr e ↦ rw e (grind (arith, nat_tests))
      ]

  fewer : n ≤ o → AtMost b (rescaled_bytes bytes old new)
  fewer h =
      ⊎_elim
      (λ z. rw (stays z) (known_at_most bytes b b u.bytes_are (omega arith)))
      (λ z. let p : 0 < o = omega arith in known_at_most _ (rescaled b o n) b (value p) (rescaled_fewer b o n p u.bytes_few u.old_few u.new_few h))
      (cases_eq o 0)

  same : n ≡ o → known (rescaled_bytes bytes old new) ≡ Some b
  same h =
      ⊎_elim
      (λ z. rw (stays z) u.bytes_are)
      (λ z. let p : 0 < o = omega arith in value p ∙ ap Some (ap (rescaled b o) h ∙ rescaled_same b o p u.bytes_few u.old_few))
      (cases_eq o 0)

pub rescales : (bytes old new : Precision ℕ) → Rescales bytes old new (rescaled_bytes bytes old new)
rescales bytes old new = record { fewer = fewer bytes old new; same = same bytes old new }
