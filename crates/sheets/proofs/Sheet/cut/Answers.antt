use Rattle.sheets.proofs.Refilled.{called_of_head}
use Rattle.sheets.proofs.Sheet.cut.Goals as goal

pub returns : goal.returns
returns g c = called_of_head c.args.self.now c.deref.ensures.value c.deref-2.ensures.value (c.cut.ensures.outcome _) (c.cut.ensures.keeps _ (g.met.E.Estimator.shares _) (g.met.E.Estimator.mirrors _))
