use Rattle.std.proofs.Common.{◌∙◌, arith}
use Rattle.sheet.specs.Made.{key_columns, columns_kept}
use Rattle.sheet.specs.Views.{anti}
use Rattle.sheet.proofs.Widths.{kept_length}
use Rattle.sheet.proofs.PartLoops.{kept_at}
use Rattle.sheet.proofs.Writes.{write_more, write_all}
use Rattle.sheet.proofs.parts.Part.put.Goals as goal

pub loop-i-preserved : goal.loop-i-preserved
loop-i-preserved g c =
    let p = c.args.self.now in
    let columns = c.args.columns.now in
    let keys = key_columns p.side p.on.now in
    let kept = columns_kept (anti p.kind) p.null_equality keys p.old_rows p.new_rows 0 columns in
    let wide = kept_length (anti p.kind) p.null_equality keys p.old_rows p.new_rows 0 columns in
    let read = kept_at (anti p.kind) p.null_equality keys p.old_rows p.new_rows columns c.loop-i.i c.index-columns-i.result c.column.result c.loop-i-test.true c.index-columns-i.is c.column.ensures in
    write_more c.args.block.now kept c.loop-i.i c.loop-i.block c.column.result c.loop-i.invariant (omega arith) (omega arith) read

pub returns : goal.returns
returns g c =
    let p = c.args.self.now in
    let columns = c.args.columns.now in
    let keys = key_columns p.side p.on.now in
    let kept = columns_kept (anti p.kind) p.null_equality keys p.old_rows p.new_rows 0 columns in
    let wide = kept_length (anti p.kind) p.null_equality keys p.old_rows p.new_rows 0 columns in
    c.loop-i.invariant ∙ write_all c.args.block.now kept c.loop-i.i (omega arith) (omega arith)
