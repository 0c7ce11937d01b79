use Rattle.std.proofs.Common.{◌≡◌, ap, ◌∙◌, arith, rules}
use Rattle.floats.specs.Counts.{rescaled}
use Rattle.floats.proofs.Rescaling.{rescaled_fewer, rescaled_same}
use Rattle.floats.proofs.rescale.Goals as goal

pub returns : goal.returns
returns c =
    let same : _ ≡ rescaled c.args.bytes c.args.old_rows c.args.new_rows = search rules in
    record {
      value = same;
      laws = rw same (record {
        fewer = λ O B P h. rescaled_fewer c.args.bytes c.args.old_rows c.args.new_rows O B P (omega arith) h;
        same = λ O B P h. ap (rescaled c.args.bytes c.args.old_rows) h ∙ rescaled_same c.args.bytes c.args.old_rows O B P;
      });
    }
