use Rattle.std.proofs.Common.{◌≡◌, ◌++◌, map, take, drop}
use Rattle.stats.specs.Columns.{column_inexact}
use Rattle.sheet.proofs.blocks.loosen.Given as goal

abbrev pub invariant-loop-column : goal.invariant-loop-column
invariant-loop-column g l = l.block ≡ map column_inexact (take l.column-index l.initial.block) ++ drop l.column-index l.initial.block
