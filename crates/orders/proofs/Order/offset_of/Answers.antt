use Rattle.std.proofs.Common.{rules, tests, ◌≡◌, length, ◌∙◌, arith}
use Rattle.std.proofs.lemmas.Iterator.{YieldsList-from_slice, YieldsList-from_map}
use Rattle.std.proofs.lemmas.Iterator.Consumers.{YieldsList-at, sum_by_from_yields_List, fits_by_from_yields_list}
use Rattle.std.proofs.lemmas.Iterator.Search.{YieldsList-from_take_while}
use Rattle.orders.specs.Orders.{width}
use Rattle.orders.proofs.Offsets.{other, before, columns_before, offset_few}
use Rattle.orders.proofs.Order.offset_of.Goals as goal

pub sum-requires-clause-fits : goal.sum-requires-clause-fits
sum-requires-clause-fits c =
    let xs = c.args.self.now.tables in
    let t = c.args.table in
    let four = c.iter.ensures.len in
    fits_by_from_yields_list width (before t xs) c.map.result _ (YieldsList-from_map _ width (YieldsList-at c.map.ensures.source (YieldsList-from_take_while _ (other t) (YieldsList-at c.take_while.ensures.source (YieldsList-from_slice xs cc)) c.take_while.ensures.closure c.take_while.ensures.done (λ x b q k. search (rules, tests)))) c.map.ensures.closure (λ x r q k. search (rules, tests))) (omega (arith, four, columns_before t xs, offset_few t xs))

pub returns-clause-columns : goal.returns-clause-columns
returns-clause-columns c =
    let xs = c.args.self.now.tables in
    let t = c.args.table in
    sum_by_from_yields_List width (before t xs) c.map.result c.sum.result c.sum.ensures.ran (YieldsList-from_map _ width (YieldsList-at c.map.ensures.source (YieldsList-from_take_while _ (other t) (YieldsList-at c.take_while.ensures.source (YieldsList-from_slice xs cc)) c.take_while.ensures.closure c.take_while.ensures.done (λ x b q k. search (rules, tests)))) c.map.ensures.closure (λ x r q k. search (rules, tests))) ∙ columns_before t xs

pub returns-clause-few : goal.returns-clause-few
returns-clause-few c =
    let xs = c.args.self.now.tables in
    let t = c.args.table in
    let four : length xs ≡ 4 = search rules in
    omega (arith, four, returns-clause-columns c, offset_few t xs)
