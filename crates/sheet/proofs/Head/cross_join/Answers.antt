use Rattle.sheet.specs.Calls.{cross, order}
use Rattle.sheet.proofs.Promises.{outcome_for_all, keeps_for_all}
use Rattle.sheet.proofs.Head.cross_join.Goals as goal

pub returns : goal.returns
returns g c =
    let call = order (cross c.args.left c.args.right) in
    record {
      outcome = outcome_for_all g.K.Key.relation call (λ estimate. c.crossed_on.ensures);
      keeps = keeps_for_all g.K.Key.relation call (λ estimate. c.crossed_on.ensures);
    }
