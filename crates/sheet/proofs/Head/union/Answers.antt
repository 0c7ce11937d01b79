use Rattle.sheet.specs.Calls.{union, order}
use Rattle.sheet.proofs.Promises.{outcome_for_all, keeps_for_all}
use Rattle.sheet.proofs.Head.union.Goals as goal

pub returns : goal.returns
returns g c =
    let call = order (union c.args.children.now) in
    record {
      outcome = outcome_for_all g.K.Key.relation call (λ estimate. c.united_on.ensures);
      keeps = keeps_for_all g.K.Key.relation call (λ estimate. c.united_on.ensures);
    }
