-- The first pair that is disjoint, as a search finds it. Assumes nothing.
use Rattle.std.proofs.Common.{◌≡◌, ℕ, List, [], ◌∷◌, map, ap, ◌∙◌, refl}
use Rattle.std.specs.List.{find}
use Rattle.std.specs.Option.{is_some, unwrap_or}
use Rattle.keys.specs.declared.Relation.{Relation}
use Rattle.stats.specs.declared.exactness.Precision.{Precision}
use Rattle.stats.specs.declared.exactness.Precision.TheVariants.{Exact, Inexact, Absent}
use Rattle.stats.specs.Precisions.{known}
use Rattle.questions.specs.declared.types.NullEquality.{NullEquality}
use Rattle.estimators.specs.declared.pairs.KeyColumns.{KeyColumns}
use Rattle.estimators.specs.Zeros.{or_else}
use Rattle.estimators.specs.Disjoint.{disjoint_pair, disjoint}

abbrev pub first_present : List (Precision ℕ) → Precision ℕ
first_present ds = unwrap_or (find (λ d. is_some (known d)) ds) Absent

present_or : (d : Precision ℕ) (ds : List (Precision ℕ)) → first_present (d ∷ ds) ≡ or_else d (first_present ds)
present_or (Exact n) ds = refl
present_or (Inexact n) ds = refl
present_or Absent ds = refl

pub first_disjoint : {K : Type 0} (relation : K → K → Relation) (rule : NullEquality) (ks : List (KeyColumns K)) → first_present (map (disjoint_pair relation rule) ks) ≡ disjoint relation rule ks
first_disjoint relation rule [] = refl
first_disjoint relation rule (k ∷ ks) =
    let d = disjoint_pair relation rule k in
    present_or d (map (disjoint_pair relation rule) ks) ∙ ap (or_else d) (first_disjoint relation rule ks)
