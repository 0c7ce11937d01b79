use Rattle.sheet.specs.Calls.{lay, order}
use Rattle.sheet.proofs.Promises.{outcome_for_all, keeps_for_all}
use Rattle.sheet.proofs.Head.lay.Goals as goal

pub returns : goal.returns
returns g c =
    let call = order (lay c.args.rows c.args.bytes c.args.laid.now) in
    record {
      outcome = outcome_for_all g.K.Key.relation call (λ estimate. c.laid_on.ensures);
      keeps = keeps_for_all g.K.Key.relation call (λ estimate. c.laid_on.ensures);
    }
