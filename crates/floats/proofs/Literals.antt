-- The literals 0.0 and 1.0. Assumes nothing.
use Rattle.std.proofs.Common.{◌≡◌, refl}
use lib.Ieee.{binary64, of_bits}
use Rattle.std.specs.Float.{float_one, float_zero}

pub one_is : of_bits binary64 0x3ff0_0000_0000_0000 ≡ float_one
unfolding of_bits
one_is = refl

pub zero_is : of_bits binary64 0 ≡ float_zero
unfolding of_bits
zero_is = refl
