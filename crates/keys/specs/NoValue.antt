-- What has no value has no value to speak of. Assumes nothing.
use Rattle.std.specs.Prelude.{◌≡◌, Some, None, Option}

pub no_value : {X A : Type 0} {a : A} → ◌≡◌ {A = Option A} None (Some a) → X
no_value e = cc
