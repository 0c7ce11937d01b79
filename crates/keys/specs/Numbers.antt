-- Signed numbers: their order, and how many a range has. Assumes nothing.
use Rattle.std.specs.Prelude.{ℕ, ◌+◌, ◌^◌, cond, ℤ, ◌-ℤ◌, Some, None, Option, int_lt, nat_lt, unsigned_abs}
use Rattle.keys.specs.declared.Relation.{Relation}
use Rattle.keys.specs.declared.Relation.TheVariants.{Before, Equal, After}

abbrev pub number_relation : ℤ → ℤ → Relation
number_relation a b = cond (int_lt a b) Before (cond (int_lt b a) After Equal)

-- n, where 64 bits hold it
abbrev pub in_word : ℕ → Option ℕ
in_word n = cond (nat_lt n (2 ^ 64)) (Some n) None

-- how many numbers low..=high has, both ends counted
abbrev pub number_size : ℤ → ℤ → Option ℕ
number_size low high = cond (int_lt high low) None (in_word (unsigned_abs (high -ℤ low) + 1))
