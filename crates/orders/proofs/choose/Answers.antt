use Rattle.std.proofs.Common.{rules, ◌+◌, Some, cond, sym, ap, ◌∙◌, subst}
use Rattle.orders.proofs.Cheaper.{BestOf, next_best}
use Rattle.orders.proofs.choose.Goals.{then-is_none_or, else-is_none_or}
use Rattle.orders.proofs.choose.Goals as goal

pub loop-i-preserved : goal.loop-i-preserved
loop-i-preserved c =
    let costs = c.args.costs.now in
    let i = c.loop-i.i in
    let best = c.loop-i.best in
    let next = next_best costs i best c.is_none_or.result c.loop-i-test.true c.loop-i.invariant c.is_none_or.ensures (λ b q. search rules) in
    elim c.if-is_none_or.branch [
      | then-is_none_or w ↦ subst (BestOf costs (i + 1)) (ap (λ r. cond r (Some i) best) w.if-is_none_or.true ∙ sym w.best-is) next
      | else-is_none_or w ↦ subst (BestOf costs (i + 1)) (ap (λ r. cond r (Some i) best) w.if-is_none_or.false ∙ sym w.best-is) next
    ]
