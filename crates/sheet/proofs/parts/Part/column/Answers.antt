use Rattle.std.proofs.Common.{◌≡◌, ◌∙◌, rules}
use Rattle.sheet.specs.Made.{among, key_columns}
use Rattle.sheet.proofs.PartLoops.{any_is}
use Rattle.sheet.proofs.parts.Part.column.Goals as goal

pub returns : goal.returns
returns g c =
    let self = c.args.self.now in
    let key : c.is_key_column-key.result ≡ among c.args.index (key_columns self.side self.on.now) = c.is_key_column-key.ensures ∙ any_is self.side c.args.index self.on.now in
    search rules
