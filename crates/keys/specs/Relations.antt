-- How two values can stand to each other. Assumes nothing.
use Rattle.std.specs.declared.cmp.Ordering.{Ordering}
use Rattle.std.specs.declared.cmp.Ordering.TheVariants as order
use Rattle.keys.specs.declared.Relation.{Relation}
use Rattle.keys.specs.declared.Relation.TheVariants.{Before, Equal, After, Unrelated}

-- the answer to the same two values, asked the other way round
abbrev pub turned : Relation → Relation
turned Before = After
turned Equal = Equal
turned After = Before
turned Unrelated = Unrelated

-- what an order says of two values of one family
abbrev pub relation_of : Ordering → Relation
relation_of order.Less = Before
relation_of order.Equal = Equal
relation_of order.Greater = After

-- the two are of one family
abbrev pub Related : Relation → Type 0
Related Before = Unit {0}
Related Equal = Unit {0}
Related After = Unit {0}
Related Unrelated = ⊥

-- the first is at or before the second
abbrev pub AtOrBefore : Relation → Type 0
AtOrBefore Before = Unit {0}
AtOrBefore Equal = Unit {0}
AtOrBefore After = ⊥
AtOrBefore Unrelated = ⊥
