use Rattle.sheet.specs.Made.{key_column}
use Rattle.sheet.proofs.Writes.{write_each}
use Rattle.sheet.proofs.groups.put_keys.Goals as goal

pub loop-i-preserved : goal.loop-i-preserved
loop-i-preserved g c =
    write_each (key_column c.args.columns.now) c.args.block.now c.args.by.now c.loop-i.i c.loop-i.block _ _ c.loop-i.invariant c.requires c.loop-i-test.true c.key_column.ensures
