use Rattle.std.proofs.Common.{◌∙◌}
use Rattle.sheet.specs.Views.{told}
use Rattle.sheet.proofs.PartMade.{part_bytes}
use Rattle.sheet.proofs.joins.part_size.Goals as goal

pub returns-in-Some-clause-bytes : goal.returns-in-Some-clause-bytes
returns-in-Some-clause-bytes g c = λ anti rule keys.
    c.bytes_in.ensures ∙ part_bytes anti rule keys c.args.figure (told c.args.from.now) c.in-Some.old_rows c.or_zero.result c.rows_in-rows.result c.in-Some.ensures c.rows_in-rows.ensures c.or_zero.ensures
