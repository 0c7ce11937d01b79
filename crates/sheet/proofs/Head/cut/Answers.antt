use Rattle.sheet.specs.Calls.{cut}
use Rattle.sheet.proofs.Promises.{outcome_for_all, keeps_for_all}
use Rattle.sheet.proofs.Head.cut.Goals as goal

pub returns : goal.returns
returns g c =
    let call = cut c.args.n in
    record {
      outcome = outcome_for_all g.K.Key.relation call (λ estimate. c.cut_on.ensures);
      keeps = keeps_for_all g.K.Key.relation call (λ estimate. c.cut_on.ensures);
    }
