use Rattle.std.proofs.Common.{◌≡◌, ℕ, ◌+◌, ◌≤◌, ◌*◌, List, ◌++◌, [], ◌∷◌, length, take, Ok, Err, None, sym, refl, ap, ◌∙◌, arith, rules}
use Rattle.std.proofs.lemmas.Result.{err_from_is_err_and}
use Rattle.keys.specs.declared.Relation.{Relation}
use Rattle.stats.specs.declared.columns.ColumnStatistics.{ColumnStatistics}
use Rattle.stats.specs.declared.exactness.Precision.TheVariants.{Absent}
use Rattle.stats.specs.Precisions.{both}
use Rattle.sheet.specs.declared.Node.{Node}
use Rattle.sheet.specs.declared.operators.Operator.TheVariants as op
use Rattle.sheet.specs.Sheets.{Sheet, sheet_of, node_at, block, table_at}
use Rattle.sheet.specs.Calls.{cross}
use Rattle.sheet.specs.Made.{Made, crossed}
use Rattle.sheet.specs.Causes.{early_refusal}
use Rattle.sheet.specs.Steps.{node_made, checked, carried, no_figure}
use Rattle.sheet.proofs.Children.{Early, Readable, early_passed, first_readable, second_readable}
use Rattle.sheet.proofs.Refused.{refused_early, passed}
use Rattle.sheet.proofs.Carried.{block_wide}
use Rattle.sheet.proofs.crosses.crossed_on.Goals as goal

module _ {K : Type 0} (relation : K → K → Relation) (s : Sheet K) (l r : ℕ) (check : Ok tt ≡ checked (early_refusal relation s (cross l r))) (left right : Node) (is-left : left ≡ node_at s l) (is-right : right ≡ node_at s r) where
  early : Early relation s (cross l r)
  early = early_passed relation s (cross l r) check

  at_left : Readable s left
  at_left = first_readable relation s (cross l r) early l (r ∷ []) refl left is-left

  at_right : Readable s right
  at_right = second_readable relation s (cross l r) early l r [] refl right is-right

  width : left.width + right.width ≡ (node_at s l).width + (node_at s r).width
  width = λ i. (is-left i).width + (is-right i).width

  space : s.head.used + (left.width + right.width) ≤ length s.columns
  space = let e : s.head.used + ((node_at s l).width + (node_at s r).width) ≤ length s.columns = early.space in let w = width in omega arith

  abbrev makes : Made K
  makes = crossed (table_at s l) (table_at s r)

  wide : length makes.columns ≡ left.width + right.width
  wide = early.wide no_figure ∙ sym width

  rows : both ◌*◌ left.rows right.rows ≡ makes.rows
  rows = λ i. both ◌*◌ (is-left i).rows (is-right i).rows

  blocks : (used : List (ColumnStatistics K)) → used ≡ take s.head.used s.columns → block used left ++ block used right ≡ makes.columns
  blocks used front =
      (λ i. block (front i) left ++ block (front i) right) ∙ (λ i. at_left.same i ++ at_right.same i) ∙ (λ i. block s.columns (is-left i) ++ block s.columns (is-right i))

pub returns-in_err-check_cross : goal.returns-in_err-check_cross
returns-in_err-check_cross g c =
    let p = err_from_is_err_and c.from_residual.result c.from_residual.ensures.1 in
    refused_early _ _ _ _ _ _ (p.1 ∙ ap Err p.2) c.in_err-check_cross.ensures

pub carry_out-requires-clause-space : goal.carry_out-requires-clause-space
carry_out-requires-clause-space g c =
    let s = sheet_of c.args.head.now c.args.nodes.now c.args.columns.now in
    space g.K.Key.relation s c.args.l c.args.r c.in_ok-check_cross.ensures _ _ c.node-left.ensures c.node-right.ensures

pub carry_out-requires-clause-writes : goal.carry_out-requires-clause-writes
carry_out-requires-clause-writes g c free front shows reads =
    let s = sheet_of c.args.head.now c.args.nodes.now c.args.columns.now in
    let check = c.in_ok-check_cross.ensures in
    let r = g.K.Key.relation in
    let left = at_left r s c.args.l c.args.r check _ _ c.node-left.ensures c.node-right.ensures in
    let right = at_right r s c.args.l c.args.r check _ _ c.node-left.ensures c.node-right.ensures in
    let fits = space r s c.args.l c.args.r check _ _ c.node-left.ensures c.node-right.ensures in
    (left.inside front.now reads, (right.inside front.now reads, block_wide s.columns free.now s.head.used _ shows fits ∙ sym (λ i. left.long front.now reads i + right.long front.now reads i)))

pub returns : goal.returns
returns g c =
    let s = sheet_of c.args.head.now c.args.nodes.now c.args.columns.now in
    let check = c.in_ok-check_cross.ensures in
    let r = g.K.Key.relation in
    let m = crossed (table_at s c.args.l) (table_at s c.args.r) in
    let filled = wide r s c.args.l c.args.r check _ _ c.node-left.ensures c.node-right.ensures in
    let made = c.crossed_rows-rows.ensures ∙ rows r s c.args.l c.args.r check _ _ c.node-left.ensures c.node-right.ensures in
    c.carry_out.ensures m
    (λ i. node_made (op.Cross c.args.l c.args.r) (made i) Absent None s.head.used (sym filled i))
    (λ free left front u shows reads post.
    let a : left.now ≡ block front.now c.node-left.result ++ block front.now c.node-right.result = search rules in
    a ∙ blocks r s c.args.l c.args.r check _ _ c.node-left.ensures c.node-right.ensures front.now reads) ∙
    (λ i. carried (sym (passed (early_refusal r s (cross c.args.l c.args.r)) check) i) (op.Cross c.args.l c.args.r) m s)
