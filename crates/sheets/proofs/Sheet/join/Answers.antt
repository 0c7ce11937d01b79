use Rattle.std.proofs.Common.{◌∙◌}
use Rattle.sheets.proofs.Refilled.{called_put_back}
use Rattle.sheets.proofs.Sheet.join.Goals as goal

pub returns : goal.returns
returns g c = called_put_back c.args.self.now c.deref_mut.ensures.value c.deref_mut-2.ensures.value (c.join.auto.nodes ∙ c.deref_mut.ensures.len) (c.join.auto.columns ∙ c.deref_mut-2.ensures.len) c.join.ensures.outcome c.join.ensures.keeps
