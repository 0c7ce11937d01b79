use Rattle.sheet.specs.Sheets.{sheet_of}
use Rattle.sheet.specs.Calls.{join_of, order}
use Rattle.sheet.proofs.Promises.{outcome, keeps}
use Rattle.sheet.proofs.Head.join.Goals as goal

pub returns : goal.returns
returns g c =
    let s = sheet_of c.args.self.now c.args.nodes.now c.args.columns.now in
    let e = c.args.estimator.now in
    let estimate = g.E.Estimator.figure e in
    let call = order (join_of c.args.join.now) in
    record {
      outcome = outcome g.K.Key.relation estimate call s _ _ c.joined_on.ensures;
      keeps = keeps g.K.Key.relation estimate call s _ _ c.joined_on.ensures (g.met.E.Estimator.shares e) (g.met.E.Estimator.mirrors e);
    }
