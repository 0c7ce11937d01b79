-- The meaning of the two kinds. Assumes nothing.
use Rattle.std.specs.Prelude.{ℕ, None, Option}
use Rattle.keys.specs.declared.Relation.{Relation}
use Rattle.keys.specs.declared.Relation.TheVariants.{Unrelated}
use Rattle.keys.specs.declared.kinds.Whole.{Whole}
use Rattle.keys.specs.declared.kinds.Mixed.{Mixed}
use Rattle.keys.specs.declared.kinds.Mixed.TheVariants.{Number, Text}
use Rattle.keys.specs.Numbers.{number_relation, number_size}
use Rattle.keys.specs.Texts.{text_relation}

abbrev pub whole_relation : Whole → Whole → Relation
whole_relation x y = number_relation x.0 y.0

abbrev pub whole_size : Whole → Whole → Option ℕ
whole_size low high = number_size low.0 high.0

-- numbers and texts are the two families
abbrev pub mixed_relation : Mixed → Mixed → Relation
mixed_relation (Number a) (Number b) = number_relation a b
mixed_relation (Number a) (Text t) = Unrelated
mixed_relation (Text s) (Number b) = Unrelated
mixed_relation (Text s) (Text t) = text_relation s t

-- texts are not counted
abbrev pub mixed_size : Mixed → Mixed → Option ℕ
mixed_size (Number a) (Number b) = number_size a b
mixed_size (Number a) (Text t) = None
mixed_size (Text s) (Number b) = None
mixed_size (Text s) (Text t) = None
