use Rattle.std.proofs.Common.{◌≡◌}
use lib.Seq.{paste}
use Rattle.sheet.specs.Made.{key_columns, columns_kept}
use Rattle.sheet.specs.Views.{anti}
use Rattle.sheet.proofs.parts.Part.put.Given as goal

abbrev pub invariant-loop-i : goal.invariant-loop-i
invariant-loop-i g l = l.block ≡ paste l.initial.block 0 (columns_kept (anti l.self.kind) l.self.null_equality (key_columns l.self.side l.self.on.now) l.self.old_rows l.self.new_rows 0 l.columns) l.i
