use Rattle.std.proofs.Common.{◌≡◌, rules}
use Rattle.stats.specs.Scaling.{scaled}
use Rattle.stats.proofs.Scales.{scales}
use Rattle.stats.proofs.scaling.scale_subset_count.Goals as goal

pub returns-clause-scales : goal.returns-clause-scales
returns-clause-scales c =
    let same : c.filter_map.result ≡ scaled c.args.count c.args.input_num_rows c.args.output_num_rows = search rules in
    rw same (scales _ _ _)
