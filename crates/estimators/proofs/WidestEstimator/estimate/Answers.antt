use Rattle.std.proofs.Common.{true, sym, ap, ◌∙◌}
use Rattle.questions.specs.Questions.{asked}
use Rattle.estimators.specs.WidestFigures.{widest_by}
use Rattle.estimators.specs.WidestLaws.{same_cond}
use Rattle.estimators.proofs.WidestEstimator.estimate.Goals as goal

pub returns : goal.returns
returns g c =
    let e = c.in_ok-checked.ensures in
    same_cond true _ _ _ (sym e.variant) (λ _. c.widest_figure.ensures ∙ ap (λ q. widest_by g.K.Key.relation g.K.Key.size (asked q) q.join_type) e.question)
