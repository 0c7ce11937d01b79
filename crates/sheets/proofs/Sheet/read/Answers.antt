use Rattle.std.proofs.Common.{ap, ◌∙◌, subst}
use Rattle.sheet.specs.Least.{read_clear, Least}
use Rattle.sheet.specs.Reads.{read_answer, shown}
use Rattle.sheets.proofs.Refilled.{before, keeps_of_head}
use Rattle.sheets.proofs.Sheet.read.Goals as goal

pub returns-clause-value : goal.returns-clause-value
returns-clause-value g c = c.read.ensures.value ∙ ap (λ t. read_answer g.K.Key.relation t c.args.n) (before c.args.self.now c.deref.ensures.value c.deref-2.ensures.value)

pub returns-clause-least : goal.returns-clause-least
returns-clause-least g c =
    subst (λ t. Least (read_clear g.K.Key.relation t c.args.n) (shown c.read.result)) (before c.args.self.now c.deref.ensures.value c.deref-2.ensures.value) c.read.ensures.least

pub returns-clause-keeps : goal.returns-clause-keeps
returns-clause-keeps g c = keeps_of_head c.args.self.now c.deref.ensures.value c.deref-2.ensures.value (c.read.ensures.keeps _ (g.met.E.Estimator.shares _) (g.met.E.Estimator.mirrors _))
