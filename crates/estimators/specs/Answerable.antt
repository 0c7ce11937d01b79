-- Questions that have a figure at all. Assumes nothing.
use Rattle.std.specs.Prelude.{Bool, ◌&&◌, length, nat_le}
use Rattle.keys.specs.declared.Relation.{Relation}
use Rattle.stats.specs.Precisions.{at_most}
use Rattle.stats.specs.Limits.{max_count}
use Rattle.stats.specs.Columns.{sound}
use Rattle.std.specs.List.{list_all}
use Rattle.questions.specs.Types.{max_pairs, pair_inside}
use Rattle.questions.specs.Questions.{Input, Question}

-- rows and columns inside the limits, columns lawful
abbrev pub input_sound : {K : Type 0} → (K → K → Relation) → Input K → Bool
input_sound relation i = at_most max_count i.rows && list_all (sound relation) i.columns

abbrev pub answerable : {K : Type 0} → (K → K → Relation) → Question K → Bool
answerable relation q =
    nat_le (length q.pairs) max_pairs &&
    (list_all (pair_inside (length q.left.columns) (length q.right.columns)) q.pairs &&
    (input_sound relation q.left && input_sound relation q.right))
