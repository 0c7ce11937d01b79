use Rattle.std.proofs.Common.{rules, sym}
use Rattle.estimators.proofs.ProductEstimator.estimate.Goals as goal

pub returns : goal.returns
returns g c = rw (sym c.in_ok-checked.ensures.question) (search rules)
