use Rattle.std.proofs.Common.{◌≡◌, rules, tests, map, sym, ap, ◌∙◌}
use Rattle.std.specs.List.{find}
use Rattle.std.specs.Option.{is_some, unwrap_or}
use Rattle.std.proofs.lemmas.Iterator.{YieldsList-from_slice, YieldsList-from_map}
use Rattle.std.proofs.lemmas.Iterator.Adapters.{option_map_id}
use Rattle.std.proofs.lemmas.Iterator.Consumers.{YieldsList-at}
use Rattle.std.proofs.lemmas.Iterator.Search.{find_from_yields_List}
use Rattle.stats.specs.declared.exactness.Precision.TheVariants.{Absent}
use Rattle.stats.specs.Precisions.{known}
use Rattle.questions.specs.Questions.{asked}
use Rattle.estimators.specs.KeyColumns.{columns_from}
use Rattle.estimators.specs.Disjoint.{disjoint_pair}
use Rattle.estimators.proofs.FirstDisjoint.{first_disjoint}
use Rattle.estimators.proofs.pairs.Side.estimate_disjoint_inputs.Goals as goal

pub returns : goal.returns
returns g c =
    let q = c.args.self.now.question.now in
    let f = columns_from c.args.self.now.side (asked q) in
    let d = disjoint_pair g.K.Key.relation q.null_equality in
    let found : c.find.result ≡ find (λ d. is_some (known d)) (map d (map f q.on.now)) =
    sym (option_map_id c.find.result) ∙
    find_from_yields_List (λ d. is_some (known d)) _ _ c.find.result c.find.ensures.ran
    (YieldsList-from_map _ d (YieldsList-at c.map-2.ensures.source (YieldsList-from_map _ f (YieldsList-at c.map.ensures.source (YieldsList-from_slice q.on.now c.iter.ensures.rest)) c.map.ensures.closure (λ x r h k. search rules))) c.map-2.ensures.closure (λ x r h k. search rules))
    (λ x b h k. search (rules, tests)) in
    c.unwrap_or.ensures ∙ ap (λ o. unwrap_or o Absent) found ∙ first_disjoint g.K.Key.relation q.null_equality (map f q.on.now)
