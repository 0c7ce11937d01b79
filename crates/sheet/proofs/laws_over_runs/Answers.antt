use Rattle.sheet.proofs.LawsHold.{laws_over_runs_lem}
use Rattle.sheet.proofs.laws_over_runs.Goals as goal

pub returns : goal.returns
returns g c =
    λ e s r. laws_over_runs_lem g.K.Key.relation (g.E.Estimator.figure e) (g.met.E.Estimator.shares e) (g.met.E.Estimator.mirrors e) s r
