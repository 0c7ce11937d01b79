-- The first column that is not sound, by its position. Assumes nothing.
use Rattle.std.proofs.Common.{◌≡◌, ℕ, ◌+◌, Bool, true, false, cond, not, List, [], ◌∷◌, Some, Option, position, refl, ap, ◌∙◌}
use Rattle.std.specs.List.{position_from}
use Rattle.std.proofs.lemmas.Iterator.Adapters.{position_from-zero}
use Rattle.keys.specs.declared.Relation.{Relation}
use Rattle.stats.specs.declared.columns.ColumnStatistics.{ColumnStatistics}
use Rattle.stats.specs.Columns.{sound}
use Rattle.sheet.specs.Causes.{unsound_from, first_unsound}

turned : (b : Bool) (found next : Option ℕ) → cond (not b) found next ≡ cond b next found
turned true found next = refl
turned false found next = refl

module _ {K : Type 0} (relation : K → K → Relation) where
  from_index : (i : ℕ) (cs : List (ColumnStatistics K)) → position_from (λ c. not (sound relation c)) i cs ≡ unsound_from relation i cs
  from_index i [] = refl
  from_index i (c ∷ cs) = turned (sound relation c) (Some i) _ ∙ ap (λ o. cond (sound relation c) o (Some i)) (from_index (i + 1) cs)

  pub first_unsound_is : (cs : List (ColumnStatistics K)) → position (λ c. not (sound relation c)) cs ≡ first_unsound relation cs
  first_unsound_is cs = position_from-zero (λ c. not (sound relation c)) cs ∙ from_index 0 cs
