use Rattle.std.proofs.Common.{rules}
use lib.Ieee.{to_unsigned, mul, div, sub, of_int}
use Rattle.std.specs.Float.{round_with}
use Rattle.worked.proofs.worked_cases.Goals as goal

pub returns : goal.returns
unfolding to_unsigned mul div sub of_int round_with
returns c = search rules
