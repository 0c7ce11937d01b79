use Rattle.std.proofs.Common.{◌≡◌, map}
use lib.Seq.{paste}
use Rattle.sheet.specs.Made.{key_column}
use Rattle.sheet.proofs.groups.put_keys.Given as goal

abbrev pub invariant-loop-i : goal.invariant-loop-i
invariant-loop-i g l = l.block ≡ paste l.initial.block 0 (map (key_column l.columns) l.by) l.i
