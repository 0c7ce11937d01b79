-- Counts multiplied. Assumes nothing.
use Rattle.std.specs.Prelude.{ℕ, ◌*◌, ◌-◌, ◌^◌, min, Some, None, Option}

-- a product that stops at 2 ^ 64 - 1
abbrev pub stopping_product : Option ℕ → Option ℕ → Option ℕ
stopping_product (Some p) (Some d) = Some (min (p * d) (2 ^ 64 - 1))
stopping_product (Some p) None = None
stopping_product None d = None
