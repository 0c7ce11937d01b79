use Rattle.std.proofs.Common.{◌≡◌, ℕ, ◌+◌, ◌≤◌, List, [], map, length, take, Ok, Err, None, Option, sym, refl, ap, ◌∙◌, arith, rules}
use Rattle.std.proofs.lemmas.Result.{err_from_is_err_and}
use Rattle.keys.specs.declared.Relation.{Relation}
use Rattle.stats.specs.declared.exactness.Precision.{Precision}
use Rattle.stats.specs.declared.columns.ColumnStatistics.{ColumnStatistics}
use Rattle.stats.specs.Bytes.{rescaled_bytes}
use Rattle.stats.specs.Columns.{column_inexact}
use Rattle.sheet.specs.declared.Node.{Node}
use Rattle.sheet.specs.declared.operators.Operator.TheVariants as op
use Rattle.sheet.specs.Sheets.{Sheet, sheet_of, node_at, block, table_at}
use Rattle.sheet.specs.Calls.{limit}
use Rattle.sheet.specs.Made.{Made, limit_rows, limited}
use Rattle.sheet.specs.Causes.{early_refusal}
use Rattle.sheet.specs.Steps.{node_made, checked, carried, no_figure}
use Rattle.sheet.proofs.Children.{Early, Readable, early_passed, first_readable}
use Rattle.sheet.proofs.Refused.{refused_early, passed}
use Rattle.sheet.proofs.Carried.{block_wide}
use Rattle.sheet.proofs.limits.limited_on.Goals as goal

module _ {K : Type 0} (relation : K → K → Relation) (s : Sheet K) (child skip : ℕ) (fetch : Option ℕ) (check : Ok tt ≡ checked (early_refusal relation s (limit child skip fetch))) (from : Node) (is : from ≡ node_at s child) where
  early : Early relation s (limit child skip fetch)
  early = early_passed relation s (limit child skip fetch) check

  child_of : Readable s from
  child_of = first_readable relation s (limit child skip fetch) early child [] refl from is

  space : s.head.used + from.width ≤ length s.columns
  space = let e : s.head.used + (node_at s child).width ≤ length s.columns = early.space in let w = ap (λ (n : Node). n.width) is in omega arith

  abbrev makes : Made K
  makes = limited skip fetch (table_at s child)

  wide : length makes.columns ≡ from.width
  wide = early.wide no_figure ∙ sym (ap (λ (n : Node). n.width) is)

  rows_are : (rows : Precision ℕ) → rows ≡ limit_rows skip fetch from.rows → rows ≡ makes.rows
  rows_are rows e = e ∙ ap (λ (n : Node). limit_rows skip fetch n.rows) is

  bytes_are : (rows bytes : Precision ℕ) → rows ≡ limit_rows skip fetch from.rows → bytes ≡ rescaled_bytes from.bytes from.rows rows → bytes ≡ makes.bytes
  bytes_are rows bytes e b = b ∙ (λ i. rescaled_bytes (is i).bytes (is i).rows (rows_are rows e i))

  block_is : (used : List (ColumnStatistics K)) → used ≡ take s.head.used s.columns → map column_inexact (block used from) ≡ makes.columns
  block_is used front = ap (map column_inexact) ((λ i. block (front i) from) ∙ child_of.same ∙ ap (block s.columns) is)

pub returns-in_err-check_limit : goal.returns-in_err-check_limit
returns-in_err-check_limit g c =
    let p = err_from_is_err_and c.from_residual.result c.from_residual.ensures.1 in
    refused_early _ _ _ _ _ _ (p.1 ∙ ap Err p.2) c.in_err-check_limit.ensures

pub carry_out-requires-clause-writes : goal.carry_out-requires-clause-writes
carry_out-requires-clause-writes g c free front shows reads =
    let s = sheet_of c.args.head.now c.args.nodes.now c.args.columns.now in
    let check = c.in_ok-check_limit.ensures in
    let r = g.K.Key.relation in
    let from = c.node-from.ensures in
    let child = child_of r s c.args.child c.args.skip c.args.fetch check _ from in
    (child.inside front.now reads, block_wide s.columns free.now s.head.used _ shows (space r s c.args.child c.args.skip c.args.fetch check _ from) ∙ sym (child.long front.now reads))

pub returns : goal.returns
returns g c =
    let s = sheet_of c.args.head.now c.args.nodes.now c.args.columns.now in
    let check = c.in_ok-check_limit.ensures in
    let r = g.K.Key.relation in
    let from = c.node-from.ensures in
    let rows = rows_are r s c.args.child c.args.skip c.args.fetch check _ from _ c.limited_rows-rows.ensures in
    let bytes = bytes_are r s c.args.child c.args.skip c.args.fetch check _ from _ _ c.limited_rows-rows.ensures c.rescale_byte_size-bytes.ensures.value in
    let filled = wide r s c.args.child c.args.skip c.args.fetch check _ from in
    let m = limited c.args.skip c.args.fetch (table_at s c.args.child) in
    c.carry_out.ensures m
    (λ i. node_made (op.Limit c.args.child c.args.skip c.args.fetch) (rows i) (bytes i) None s.head.used (sym filled i))
    (λ free left front u shows reads post.
    let a : left.now ≡ map column_inexact (block front.now c.node-from.result) = search rules in
    a ∙ block_is r s c.args.child c.args.skip c.args.fetch check _ from front.now reads) ∙
    (λ i. carried (sym (passed (early_refusal r s (limit c.args.child c.args.skip c.args.fetch)) check) i) (op.Limit c.args.child c.args.skip c.args.fetch) m s)
