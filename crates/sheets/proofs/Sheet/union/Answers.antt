use Rattle.std.proofs.Common.{◌∙◌}
use Rattle.sheets.proofs.Refilled.{called_put_back}
use Rattle.sheets.proofs.Sheet.union.Goals as goal

pub returns : goal.returns
returns g c = called_put_back c.args.self.now c.deref_mut.ensures.value c.deref_mut-2.ensures.value (c.union.auto.nodes ∙ c.deref_mut.ensures.len) (c.union.auto.columns ∙ c.deref_mut-2.ensures.len) (c.union.ensures.outcome _) (c.union.ensures.keeps _ (g.met.E.Estimator.shares _) (g.met.E.Estimator.mirrors _))
