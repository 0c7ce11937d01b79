-- The cost of an order, and the choice of one. Assumes nothing.
use Rattle.std.specs.Prelude.{◌≡◌, ℕ, ◌<◌, Bool, true, false, List, [], length, Some, None, Option, nat_lt, slice_index_or}
use Rattle.stats.specs.declared.exactness.Precision.{Precision}
use Rattle.stats.specs.declared.exactness.Precision.TheVariants.{Absent}
use Rattle.stats.specs.Precisions.{known}
use Rattle.stats.specs.Totals.{total_of}

-- the cost of an order: the rows of its steps, added up
abbrev pub rows_total : List (Precision ℕ) → Precision ℕ
rows_total steps = total_of steps

-- fewer rows; a cost that is not known is dearer than each that is
abbrev pub cheaper_by : Option ℕ → Option ℕ → Bool
cheaper_by (Some a) (Some b) = nat_lt a b
cheaper_by (Some a) None = true
cheaper_by None b = false

abbrev pub cheaper : Precision ℕ → Precision ℕ → Bool
cheaper a b = cheaper_by (known a) (known b)

-- place i is among the costs, and none of them is cheaper
pub record Cheapest (costs : List (Precision ℕ)) (i : ℕ) : Type 0 where
  pub among : i < length costs
  pub none_cheaper : (j : ℕ) → j < length costs → cheaper (slice_index_or costs j Absent) (slice_index_or costs i Absent) ≡ false

abbrev pub Chosen : List (Precision ℕ) → Option ℕ → Type 0
Chosen costs (Some i) = Cheapest costs i
Chosen costs None = costs ≡ []

-- each before place i is dearer: of several cheapest it is the first
abbrev pub First : List (Precision ℕ) → ℕ → Type 0
First costs i = (j : ℕ) → j < i → cheaper (slice_index_or costs i Absent) (slice_index_or costs j Absent) ≡ true
