use Rattle.estimators.proofs.InBounds.{widest_bounds, product_bounds}
use Rattle.estimators.specs.DisjointLaws.{pair_swap}
use Rattle.estimators.proofs.figures_stay_in_bounds.Goals as goal

pub returns : goal.returns
returns g c = record {
  widest = widest_bounds g.K.Key.relation g.K.Key.size;
  product = product_bounds g.K.Key.relation;
  disjoint = λ rule k l m. pair_swap g.met.K.Key.lawful rule k (l, m);
}
