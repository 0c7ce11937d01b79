use Rattle.std.proofs.Common.{◌≡◌, ◌++◌, map, take, drop}
use Rattle.stats.specs.Trim.{trimmed}
use Rattle.sheet.proofs.blocks.trim_all.Given as goal

abbrev pub invariant-loop-column : goal.invariant-loop-column
invariant-loop-column g l = l.block ≡ map (trimmed l.fn.rows) (take l.column-index l.initial.block) ++ drop l.column-index l.initial.block
