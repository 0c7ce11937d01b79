use Rattle.orders.proofs.Cheaper.{BestOf}
use Rattle.orders.proofs.choose.Given as goal

abbrev pub invariant-loop-i : goal.invariant-loop-i
invariant-loop-i l = BestOf l.costs l.i l.best
