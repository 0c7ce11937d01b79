use Rattle.sheet.specs.Calls.{group_of, order}
use Rattle.sheet.proofs.Promises.{outcome_for_all, keeps_for_all}
use Rattle.sheet.proofs.Head.group.Goals as goal

pub returns : goal.returns
returns g c =
    let call = order (group_of c.args.grouping.now) in
    record {
      outcome = outcome_for_all g.K.Key.relation call (λ estimate. c.grouped_on.ensures);
      keeps = keeps_for_all g.K.Key.relation call (λ estimate. c.grouped_on.ensures);
    }
