use Rattle.std.proofs.Common.{◌≡◌, rules}
use Rattle.stats.specs.Trim.{trimmed}
use Rattle.stats.proofs.Trims.{trims}
use Rattle.stats.proofs.columns.ColumnStatistics.trim.Goals as goal

pub returns : goal.returns
returns g c =
    let same : _ ≡ trimmed c.args.rows c.args.self = search rules in
    record { value = same; trims = rw same (trims g.K.Key.relation c.args.rows c.args.self) }
