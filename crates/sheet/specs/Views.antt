-- What a call sees of a sheet, as values. Assumes nothing.
use Rattle.std.specs.Prelude.{Bool, true, false}
use Rattle.sheet.specs.declared.parts.PartKind.{PartKind}
use Rattle.sheet.specs.declared.parts.PartKind.TheVariants.{Semi, Anti}
use Rattle.sheet.specs.declared.joins.Joined.{Joined}
use Rattle.sheet.specs.declared.views.View.{View}
use Rattle.sheet.specs.declared.views.Table.{Table as TableSeen}
use Rattle.sheet.specs.Sheets.{Sheet, Table, sheet_of}
use Rattle.sheet.specs.Made.{Made, joined_by}

-- the sheet that a view shows
abbrev pub seen : {K : Type 0} → View K → Sheet K
seen v = sheet_of v.head v.nodes.now v.columns.now

-- the table that is told of
abbrev pub told : {K : Type 0} → TableSeen K → Table K
told t = record { rows = t.rows; bytes = t.bytes; columns = t.columns.now }

-- which of the two parts of the rows it is
abbrev pub anti : PartKind → Bool
anti Semi = false
anti Anti = true

-- what a join makes of its tables
abbrev pub made_of : {K : Type 0} → Joined K → Made K
made_of j = joined_by j.join.now.join_type j.join.now.null_equality j.join.now.on.now j.figure (told j.left) (told j.right)
