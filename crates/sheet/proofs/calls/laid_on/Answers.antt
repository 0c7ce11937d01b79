use Rattle.std.proofs.Common.{Err, sym, refl, ap, ◌∙◌, rules}
use Rattle.std.proofs.lemmas.Result.{err_from_is_err_and}
use Rattle.sheet.specs.declared.Head.{Head}
use Rattle.sheet.specs.declared.operators.Operator.TheVariants as op
use Rattle.sheet.specs.Sheets.{sheet_of}
use Rattle.sheet.specs.Calls.{lay}
use Rattle.sheet.specs.Causes.{made}
use Rattle.sheet.specs.Steps.{with_node, no_figure}
use Rattle.sheet.proofs.Refused.{refused, passed, accepted_step}
use Rattle.sheet.proofs.Added.{node_added}
use Rattle.sheet.proofs.calls.laid_on.Goals as goal

pub returns-in_err-check_lay : goal.returns-in_err-check_lay
returns-in_err-check_lay g c =
    let p = err_from_is_err_and c.from_residual.result c.from_residual.ensures.1 in
    refused _ _ _ _ _ (p.1 ∙ ap Err p.2) c.in_err-check_lay.ensures

pub returns : goal.returns
returns g c =
    let s = sheet_of c.args.head.now c.args.nodes.now c.args.columns.now in
    let o = lay c.args.rows c.args.bytes c.args.laid.now in
    let none = passed _ c.in_ok-check_lay.ensures in
    let added = c.add_node.ensures in
    accepted_step _ s (with_node op.Lay (made no_figure s o) s) _ _ none (added.number ∙ sym (ap (λ (x : Head). x.count) added.counts))
    (node_added op.Lay (made no_figure s o) s _ _ refl refl _ _ _ added.counts added.adds
    (added.trims c.args.laid.now (λ free left front u shows reads post. search rules)))
