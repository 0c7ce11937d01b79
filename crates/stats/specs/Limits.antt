-- The limits of counts. Assumes nothing.
use Rattle.std.specs.Prelude.{ℕ, ◌^◌}

-- rows, nulls and distincts
abbrev pub max_count : ℕ
max_count = 2 ^ 26

abbrev pub max_column_bytes : ℕ
max_column_bytes = 2 ^ 30

abbrev pub max_node_bytes : ℕ
max_node_bytes = 2 ^ 36
