use Rattle.sheet.specs.Calls.{limit, order}
use Rattle.sheet.proofs.Promises.{outcome_for_all, keeps_for_all}
use Rattle.sheet.proofs.Head.limit.Goals as goal

pub returns : goal.returns
returns g c =
    let call = order (limit c.args.child c.args.skip c.args.fetch) in
    record {
      outcome = outcome_for_all g.K.Key.relation call (λ estimate. c.limited_on.ensures);
      keeps = keeps_for_all g.K.Key.relation call (λ estimate. c.limited_on.ensures);
    }
