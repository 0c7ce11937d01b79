use Rattle.std.proofs.Common.{◌≡◌, ℕ, ◌+◌, ◌^◌, ◌<◌, ◌≤◌, List, [], ◌∷◌, length, take, Ok, Err, Option, sym, refl, ap, ◌∙◌, arith, rules}
use Rattle.std.proofs.lemmas.Result.{err_from_is_err_and}
use Rattle.std.proofs.lemmas.Bool.{leb-true}
use Rattle.keys.specs.declared.Relation.{Relation}
use Rattle.stats.specs.declared.columns.ColumnStatistics.{ColumnStatistics}
use Rattle.questions.specs.declared.types.JoinType.{JoinType}
use Rattle.questions.specs.declared.types.NullEquality.{NullEquality}
use Rattle.questions.specs.declared.types.KeyPair.{KeyPair}
use Rattle.questions.specs.declared.figures.Figure.{Figure}
use Rattle.questions.specs.Questions.{Question}
use Rattle.sheet.specs.declared.Node.{Node}
use Rattle.sheet.specs.Sheets.{Sheet, sheet_of, node_at, block, table_of, table_at}
use Rattle.sheet.specs.Calls.{join, join_of}
use Rattle.sheet.specs.Made.{join_question, joined_by, figure_held, joined}
use Rattle.sheet.specs.Causes.{join_width, early_refusal}
use Rattle.sheet.specs.Steps.{node_made, checked, carried}
use Rattle.sheet.proofs.Children.{Early, Readable, early_passed, first_readable, second_readable}
use Rattle.sheet.proofs.Refused.{refused_early, passed}
use Rattle.sheet.proofs.Carried.{block_wide}
use Rattle.sheet.proofs.JoinCarried.{join_rows, join_bytes, join_figure, join_columns}
use Rattle.sheet.proofs.joins.joined_on.Goals as goal

module _ {K : Type 0} (relation : K → K → Relation) (s : Sheet K) (t : JoinType) (rule : NullEquality) (l r : ℕ) (pairs : List KeyPair) (check : Ok tt ≡ checked (early_refusal relation s (join t rule l r pairs))) (left right : Node) (is-left : left ≡ node_at s l) (is-right : right ≡ node_at s r) where
  early : Early relation s (join t rule l r pairs)
  early = early_passed relation s (join t rule l r pairs) check

  at_left : Readable s left
  at_left = first_readable relation s (join t rule l r pairs) early l (r ∷ []) refl left is-left

  at_right : Readable s right
  at_right = second_readable relation s (join t rule l r pairs) early l r [] refl right is-right

  width : join_width t left.width right.width ≡ join_width t (node_at s l).width (node_at s r).width
  width = λ i. join_width t (is-left i).width (is-right i).width

  space : (w : ℕ) → w ≡ join_width t left.width right.width → s.head.used + w ≤ length s.columns
  space w is = let e : s.head.used + join_width t (node_at s l).width (node_at s r).width ≤ length s.columns = early.space in let f = width in omega arith

  few : length pairs ≤ 16
  few = leb-true (length pairs) 16 early.counts

  wide : (estimate : Question K → Option Figure) → length (joined estimate t rule pairs (table_at s l) (table_at s r)).columns ≡ join_width t left.width right.width
  wide estimate = early.wide estimate ∙ sym width

  tables : (used : List (ColumnStatistics K)) → used ≡ take s.head.used s.columns → (f : Option Figure) → (joined_by t rule pairs f (table_of used left) (table_of used right)).columns ≡ (joined_by t rule pairs f (table_of s.columns left) (table_of s.columns right)).columns
  tables used front f =
      let a = ap (λ d. block d left) front ∙ at_left.same in
      let b = ap (λ d. block d right) front ∙ at_right.same in
      λ i. (joined_by t rule pairs f (record { rows = left.rows; bytes = left.bytes; columns = a i }) (record { rows = right.rows; bytes = right.bytes; columns = b i })).columns

pub returns-in_err-check_join : goal.returns-in_err-check_join
returns-in_err-check_join g c =
    let p = err_from_is_err_and c.from_residual.result c.from_residual.ensures.1 in
    refused_early _ _ _ _ _ _ (p.1 ∙ ap Err p.2) c.in_err-check_join.ensures

pub table_of-left-requires : goal.table_of-left-requires
table_of-left-requires g c =
    let s = sheet_of c.args.head.now c.args.nodes.now c.args.columns.now in
    let j = c.args.join.now in
    let check = c.in_ok-check_join.ensures in
    let a = at_left g.K.Key.relation s j.join_type j.null_equality j.left j.right j.on.now check _ _ c.node-l.ensures c.node-r.ensures in
    let h = space g.K.Key.relation s j.join_type j.null_equality j.left j.right j.on.now check _ _ c.node-l.ensures c.node-r.ensures _ refl in
    omega (arith, a.below)

pub table_of-right-requires : goal.table_of-right-requires
table_of-right-requires g c =
    let s = sheet_of c.args.head.now c.args.nodes.now c.args.columns.now in
    let j = c.args.join.now in
    let check = c.in_ok-check_join.ensures in
    let a = at_right g.K.Key.relation s j.join_type j.null_equality j.left j.right j.on.now check _ _ c.node-l.ensures c.node-r.ensures in
    let h = space g.K.Key.relation s j.join_type j.null_equality j.left j.right j.on.now check _ _ c.node-l.ensures c.node-r.ensures _ refl in
    omega (arith, a.below)

pub overflow_cast-width : goal.overflow_cast-width
overflow_cast-width g c =
    let s = sheet_of c.args.head.now c.args.nodes.now c.args.columns.now in
    let j = c.args.join.now in
    let check = c.in_ok-check_join.ensures in
    let h = space g.K.Key.relation s j.join_type j.null_equality j.left j.right j.on.now check _ _ c.node-l.ensures c.node-r.ensures _ c.join_width-width.ensures in
    let b : length c.args.columns.now < 2 ^ 64 = search rules in
    omega arith

pub join_operator-requires : goal.join_operator-requires
join_operator-requires g c =
    let s = sheet_of c.args.head.now c.args.nodes.now c.args.columns.now in
    let j = c.args.join.now in
    let check = c.in_ok-check_join.ensures in
    record { few = few g.K.Key.relation s j.join_type j.null_equality j.left j.right j.on.now check _ _ c.node-l.ensures c.node-r.ensures }

pub carry_out-requires-clause-room : goal.carry_out-requires-clause-room
carry_out-requires-clause-room g c =
    let s = sheet_of c.args.head.now c.args.nodes.now c.args.columns.now in
    let j = c.args.join.now in
    let check = c.in_ok-check_join.ensures in
    (early g.K.Key.relation s j.join_type j.null_equality j.left j.right j.on.now check _ _ c.node-l.ensures c.node-r.ensures).room

pub carry_out-requires-clause-space : goal.carry_out-requires-clause-space
carry_out-requires-clause-space g c =
    let s = sheet_of c.args.head.now c.args.nodes.now c.args.columns.now in
    let j = c.args.join.now in
    let check = c.in_ok-check_join.ensures in
    space g.K.Key.relation s j.join_type j.null_equality j.left j.right j.on.now check _ _ c.node-l.ensures c.node-r.ensures _ c.join_width-width.ensures

pub carry_out-requires-clause-writes : goal.carry_out-requires-clause-writes
carry_out-requires-clause-writes g c free front shows reads =
    let s = sheet_of c.args.head.now c.args.nodes.now c.args.columns.now in
    let j = c.args.join.now in
    let check = c.in_ok-check_join.ensures in
    let left = at_left g.K.Key.relation s j.join_type j.null_equality j.left j.right j.on.now check _ _ c.node-l.ensures c.node-r.ensures in
    let right = at_right g.K.Key.relation s j.join_type j.null_equality j.left j.right j.on.now check _ _ c.node-l.ensures c.node-r.ensures in
    let fits = space g.K.Key.relation s j.join_type j.null_equality j.left j.right j.on.now check _ _ c.node-l.ensures c.node-r.ensures _ c.join_width-width.ensures in
    (left.inside front.now reads, (right.inside front.now reads, block_wide s.columns free.now s.head.used _ shows fits ∙ c.join_width-width.ensures))

pub returns : goal.returns
returns g c =
    let s = sheet_of c.args.head.now c.args.nodes.now c.args.columns.now in
    let j = c.args.join.now in
    let check = c.in_ok-check_join.ensures in
    let asked = c.ask-figure.ensures ∙ (λ i. figure_held j.join_type ((g.E.Estimator.figure c.args.estimator.now) (join_question j.join_type j.null_equality j.on.now (c.table_of-left.ensures i) (c.table_of-right.ensures i)))) in
    let rows = c.size-rows.ensures.rows ∙ (λ i. (joined_by j.join_type j.null_equality j.on.now c.ask-figure.result (c.table_of-left.ensures i) (c.table_of-right.ensures i)).rows) in
    let bytes = c.size-rows.ensures.bytes ∙ (λ i. (joined_by j.join_type j.null_equality j.on.now c.ask-figure.result (c.table_of-left.ensures i) (c.table_of-right.ensures i)).bytes) in
    let m = joined (g.E.Estimator.figure c.args.estimator.now) j.join_type j.null_equality j.on.now (table_at s j.left) (table_at s j.right) in
    let is-rows = join_rows (g.E.Estimator.figure c.args.estimator.now) s j.join_type j.null_equality j.left j.right j.on.now _ _ c.node-l.ensures c.node-r.ensures _ asked _ rows in
    let is-bytes = join_bytes (g.E.Estimator.figure c.args.estimator.now) s j.join_type j.null_equality j.left j.right j.on.now _ _ c.node-l.ensures c.node-r.ensures _ asked _ bytes in
    let is-figure = join_figure (g.E.Estimator.figure c.args.estimator.now) s j.join_type j.null_equality j.left j.right j.on.now _ _ c.node-l.ensures c.node-r.ensures _ asked in
    let filled = wide g.K.Key.relation s j.join_type j.null_equality j.left j.right j.on.now check _ _ c.node-l.ensures c.node-r.ensures (g.E.Estimator.figure c.args.estimator.now) ∙ sym c.join_width-width.ensures in
    c.carry_out.ensures m
    (λ i. node_made c.join_operator.result (is-rows i) (is-bytes i) (is-figure i) s.head.used (sym filled i))
    (λ free left front u shows reads post.
    let a : left.now ≡ (joined_by j.join_type j.null_equality j.on.now c.ask-figure.result (table_of front.now c.node-l.result) (table_of front.now c.node-r.result)).columns = search rules in
    join_columns (g.E.Estimator.figure c.args.estimator.now) s j.join_type j.null_equality j.left j.right j.on.now _ _ c.node-l.ensures c.node-r.ensures _ asked _ (a ∙ tables g.K.Key.relation s j.join_type j.null_equality j.left j.right j.on.now check _ _ c.node-l.ensures c.node-r.ensures front.now reads c.ask-figure.result)) ∙
    (λ i. carried (sym (passed (early_refusal g.K.Key.relation s (join_of j)) check) i) (c.join_operator.ensures i) m s)
