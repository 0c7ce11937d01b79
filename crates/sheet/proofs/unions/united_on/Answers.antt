use Rattle.std.proofs.Common.{◌≡◌, ℕ, ◌+◌, ◌≤◌, List, map, length, Ok, Err, None, sym, ap, ◌∙◌, arith, rules}
use Rattle.std.proofs.lemmas.Result.{err_from_is_err_and}
use Rattle.keys.specs.declared.Relation.{Relation}
use Rattle.sheet.specs.declared.operators.Operator.TheVariants as op
use Rattle.sheet.specs.Sheets.{Sheet, sheet_of, table_at}
use Rattle.sheet.specs.Calls.{union}
use Rattle.sheet.specs.Made.{Made, unknowns, united}
use Rattle.sheet.specs.Causes.{union_width, early_refusal}
use Rattle.sheet.specs.Steps.{node_made, checked, carried, no_figure}
use Rattle.sheet.proofs.Children.{Early, early_passed}
use Rattle.sheet.proofs.Refused.{refused_early, passed}
use Rattle.sheet.proofs.Carried.{block_wide}
use Rattle.sheet.proofs.UnionCarried.{union_rows, union_bytes, union_columns}
use Rattle.sheet.proofs.unions.united_on.Goals as goal

module _ {K : Type 0} (relation : K → K → Relation) (s : Sheet K) (cs : List ℕ) (check : Ok tt ≡ checked (early_refusal relation s (union cs))) (w : ℕ) (is : w ≡ union_width s cs) where
  early : Early relation s (union cs)
  early = early_passed relation s (union cs) check

  space : s.head.used + w ≤ length s.columns
  space = let e : s.head.used + union_width s cs ≤ length s.columns = early.space in omega arith

  abbrev makes : Made K
  makes = united (map (table_at s) cs)

  wide : length makes.columns ≡ w
  wide = early.wide no_figure ∙ sym is

pub returns-in_err-check_union : goal.returns-in_err-check_union
returns-in_err-check_union g c =
    let p = err_from_is_err_and c.from_residual.result c.from_residual.ensures.1 in
    refused_early _ _ _ _ _ _ (p.1 ∙ ap Err p.2) c.in_err-check_union.ensures

pub returns : goal.returns
returns g c =
    let s = sheet_of c.args.head.now c.args.nodes.now c.args.columns.now in
    let cs = c.args.children.now in
    let check = c.in_ok-check_union.ensures in
    let early = early_refusal g.K.Key.relation s (union cs) in
    let fits = space g.K.Key.relation s cs check _ c.union_width-width.ensures in
    let filled = wide g.K.Key.relation s cs check _ c.union_width-width.ensures in
    let rows = union_rows s cs _ c.sums-rows.ensures.rows in
    let bytes = union_bytes s cs _ _ _ c.sums-rows.ensures.rows c.sums-rows.ensures.bytes c.rescale_byte_size-bytes.ensures.value in
    let m = united (map (table_at s) cs) in
    c.carry_out.ensures m
    (λ i. node_made (op.Union c.short_of.result) (rows i) (bytes i) None s.head.used (sym filled i))
    (λ block left front r shows reads post.
    let a : left.now ≡ unknowns (length block.now) = search rules in
    a ∙ union_columns s cs _ _ filled (block_wide s.columns block.now s.head.used _ shows fits)) ∙
    (λ i. carried (sym (passed early check) i) (op.Union (c.short_of.ensures i)) m s)
