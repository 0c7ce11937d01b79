-- A mirrored question has the same keys, seen from the other side, and is
-- answerable where the question is. Assumes nothing.
use Rattle.std.specs.Prelude.{◌≡◌, ℕ, ◌&&◌, List, map, length, nat_le, refl}
use Rattle.std.proofs.Common.{ap, ◌∙◌}
use Rattle.std.proofs.Math.Bool.{and_comm}
use Rattle.std.proofs.lemmas.List.{length-map}
use Rattle.std.proofs.lemmas.List.Folds.{list_all-map}
use Rattle.std.proofs.lemmas.Simd.{map-map}
use Rattle.keys.specs.declared.Relation.{Relation}
use Rattle.stats.specs.declared.columns.ColumnStatistics.{ColumnStatistics}
use Rattle.std.specs.List.{list_all}
use Rattle.questions.specs.declared.types.JoinSide.{JoinSide}
use Rattle.questions.specs.declared.types.JoinSide.TheVariants.{Left, Right}
use Rattle.questions.specs.declared.types.KeySide.{KeySide}
use Rattle.questions.specs.declared.types.KeySide.TheVariants.{Column, Expression}
use Rattle.questions.specs.declared.types.KeyPair.{KeyPair}
use Rattle.questions.specs.Types.{opposite, exchanged, max_pairs}
use Rattle.questions.specs.Questions.{Question, mirrored}
use Rattle.estimators.specs.KeyColumns.{turned, columns_at, columns_from, keys_from}
use Rattle.questions.specs.Types.{key_inside, pair_inside}
use Rattle.estimators.specs.Answerable.{input_sound, answerable}

columns_turned : {K : Type 0} (left right : List (ColumnStatistics K)) (a b : KeySide) → columns_at right left b a ≡ turned (columns_at left right a b)
columns_turned left right (Column i) (Column j) = refl
columns_turned left right (Column i) Expression = refl
columns_turned left right Expression (Column j) = refl
columns_turned left right Expression Expression = refl

columns_mirrored : {K : Type 0} (s : JoinSide) (q : Question K) (p : KeyPair) → columns_from s (mirrored q) (exchanged p) ≡ columns_from (opposite s) q p
columns_mirrored Left q p = columns_turned q.left.columns q.right.columns p.left p.right
columns_mirrored Right q p = ap turned (columns_turned q.left.columns q.right.columns p.left p.right)

pub keys_mirrored : {K : Type 0} (s : JoinSide) (q : Question K) → keys_from s (mirrored q) ≡ keys_from (opposite s) q
keys_mirrored s q = map-map (columns_from s (mirrored q)) exchanged q.pairs ∙ (λ i. map (λ p. columns_mirrored s q p i) q.pairs)

inside_exchanged : (l r : ℕ) (p : KeyPair) → pair_inside r l (exchanged p) ≡ pair_inside l r p
inside_exchanged l r p = and_comm (key_inside r p.right) (key_inside l p.left)

pub answerable_mirrored : {K : Type 0} (relation : K → K → Relation) (q : Question K) → answerable relation (mirrored q) ≡ answerable relation q
answerable_mirrored relation q =
    let l = length q.left.columns in
    let r = length q.right.columns in
    λ i. nat_le (length-map q.pairs exchanged i) max_pairs && ((list_all-map (pair_inside r l) exchanged q.pairs ∙ (λ j. list_all (λ p. inside_exchanged l r p j) q.pairs)) i && and_comm (input_sound relation q.right) (input_sound relation q.left) i)
