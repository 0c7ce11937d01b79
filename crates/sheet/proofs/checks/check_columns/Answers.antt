use Rattle.std.proofs.Common.{◌≡◌, ap, ◌∙◌, rules}
use Rattle.std.specs.Option.{option_map}
use Rattle.sheet.specs.declared.refusals.Refusal.TheVariants as refusal
use Rattle.sheet.specs.Steps.{checked}
use Rattle.sheet.proofs.FindUnsound.{first_unsound_is}
use Rattle.sheet.proofs.checks.check_columns.Goals as goal

pub returns : goal.returns
returns g c =
    let e : c.map_or.result ≡ checked (option_map refusal.Column c.find_unsound.result) = search rules in
    e ∙ ap (λ o. checked (option_map refusal.Column o)) (c.find_unsound.ensures ∙ first_unsound_is g.K.Key.relation c.args.laid.now)
