use Rattle.std.proofs.Common.{◌≡◌, ℕ, ◌+◌, ◌≤◌, List, [], length, Ok, Err, sym, refl, ap, ◌∙◌, arith, rules}
use Rattle.std.proofs.lemmas.Result.{err_from_is_err_and}
use Rattle.std.proofs.lemmas.Bool.{leb-true}
use Rattle.keys.specs.declared.Relation.{Relation}
use Rattle.questions.specs.declared.types.KeySide.{KeySide}
use Rattle.sheet.specs.declared.Node.{Node}
use Rattle.sheet.specs.declared.operators.AggregateMode.{AggregateMode}
use Rattle.sheet.specs.declared.operators.Operator.TheVariants as op
use Rattle.sheet.specs.Sheets.{Sheet, sheet_of, node_at, block, table_of, table_at}
use Rattle.sheet.specs.Calls.{group_of, group}
use Rattle.sheet.specs.Made.{group_count, grouped_by, grouped}
use Rattle.sheet.specs.Causes.{early_refusal}
use Rattle.sheet.specs.Steps.{node_made, checked, carried, no_figure}
use Rattle.sheet.proofs.Children.{Early, Readable, early_passed, first_readable}
use Rattle.sheet.proofs.Refused.{refused_early, passed}
use Rattle.sheet.proofs.Carried.{block_wide}
use Rattle.sheet.proofs.GroupCarried.{group_rows, group_bytes, group_figure, group_columns}
use Rattle.sheet.proofs.groups.grouped_on.Goals as goal

module _ {K : Type 0} (relation : K → K → Relation) (s : Sheet K) (mode : AggregateMode) (sets extras child : ℕ) (keys : List KeySide) (check : Ok tt ≡ checked (early_refusal relation s (group mode sets extras child keys))) where
  early : Early relation s (group mode sets extras child keys)
  early = early_passed relation s (group mode sets extras child keys) check

  space : s.head.used + (length keys + extras) ≤ length s.columns
  space = early.space

  narrow : length keys + extras ≤ 64
  narrow = early.narrow

  few : length keys ≤ 16
  few = leb-true (length keys) 16 early.counts

  wide : length (grouped mode sets extras keys (table_at s child)).columns ≡ length keys + extras
  wide = early.wide no_figure

  child_of : (from : Node) → from ≡ node_at s child → Readable s from
  child_of from is = first_readable relation s (group mode sets extras child keys) early child [] refl from is

pub returns-in_err-check_group : goal.returns-in_err-check_group
returns-in_err-check_group g c =
    let p = err_from_is_err_and c.from_residual.result c.from_residual.ensures.1 in
    refused_early _ _ _ _ _ _ (p.1 ∙ ap Err p.2) c.in_err-check_group.ensures

pub overflow_add-width : goal.overflow_add-width
overflow_add-width g c =
    let s = sheet_of c.args.head.now c.args.nodes.now c.args.columns.now in
    let b = c.args.grouping.now in
    let n = narrow g.K.Key.relation s b.mode b.sets b.extras b.child b.by.now c.in_ok-check_group.ensures in
    omega arith

pub short_of-requires : goal.short_of-requires
short_of-requires g c =
    let s = sheet_of c.args.head.now c.args.nodes.now c.args.columns.now in
    let b = c.args.grouping.now in
    (omega arith, few g.K.Key.relation s b.mode b.sets b.extras b.child b.by.now c.in_ok-check_group.ensures)

pub carry_out-requires-clause-space : goal.carry_out-requires-clause-space
carry_out-requires-clause-space g c =
    let s = sheet_of c.args.head.now c.args.nodes.now c.args.columns.now in
    let b = c.args.grouping.now in
    space g.K.Key.relation s b.mode b.sets b.extras b.child b.by.now c.in_ok-check_group.ensures

pub carry_out-requires-clause-writes : goal.carry_out-requires-clause-writes
carry_out-requires-clause-writes g c free front shows reads =
    let s = sheet_of c.args.head.now c.args.nodes.now c.args.columns.now in
    let b = c.args.grouping.now in
    let check = c.in_ok-check_group.ensures in
    let child = child_of g.K.Key.relation s b.mode b.sets b.extras b.child b.by.now check _ c.node-from.ensures in
    (child.inside front.now reads, block_wide s.columns free.now s.head.used _ shows (space g.K.Key.relation s b.mode b.sets b.extras b.child b.by.now check))

pub returns : goal.returns
returns g c =
    let s = sheet_of c.args.head.now c.args.nodes.now c.args.columns.now in
    let b = c.args.grouping.now in
    let check = c.in_ok-check_group.ensures in
    let from = c.node-from.ensures in
    let counted = c.count_groups-groups.ensures ∙ ap (group_count b.mode b.sets b.by.now) c.block_of.ensures in
    let child = child_of g.K.Key.relation s b.mode b.sets b.extras b.child b.by.now check _ from in
    let groups = c.count_groups-groups.result in
    let m = grouped b.mode b.sets b.extras b.by.now (table_at s b.child) in
    let rows = group_rows s b.child b.mode b.sets b.extras b.by.now _ from _ counted _ c.group_size-rows.ensures.rows in
    let bytes = group_bytes s b.child b.mode b.sets b.extras b.by.now _ from _ counted _ c.group_size-rows.ensures.bytes in
    let figure = group_figure s b.child b.mode b.sets b.extras b.by.now _ from _ counted in
    let filled = wide g.K.Key.relation s b.mode b.sets b.extras b.child b.by.now check in
    c.carry_out.ensures m
    (λ i. node_made (op.Group b.mode b.sets b.extras b.child c.short_of.result) (rows i) (bytes i) (figure i) s.head.used (sym filled i))
    (λ free left front u shows reads post.
    let a : left.now ≡ (grouped_by groups b.extras b.by.now (table_of front.now c.node-from.result)).columns = search rules in
    let columns = ap (λ d. block d c.node-from.result) reads ∙ child.same in
    group_columns s b.child b.mode b.sets b.extras b.by.now _ from _ counted _ (a ∙ ap (λ cs. (grouped_by groups b.extras b.by.now (record { rows = c.node-from.result.rows; bytes = c.node-from.result.bytes; columns = cs })).columns) columns)) ∙
    (λ i. carried (sym (passed (early_refusal g.K.Key.relation s (group_of b)) check) i) (op.Group b.mode b.sets b.extras b.child (c.short_of.ensures i)) m s)
