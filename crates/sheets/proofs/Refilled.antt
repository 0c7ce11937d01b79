-- A call on the memory of an owned sheet is a call on the sheet. Assumes nothing.
use Rattle.std.proofs.Common.{◌≡◌, ℕ, List, length, vec_items, vec_len, Option, Result, refl, sym, subst}
use Rattle.std.specs.Vec.{with_items}
use Rattle.std.proofs.lemmas.List.{with_items_is}
use Rattle.keys.specs.declared.Relation.{Relation}
use Rattle.stats.specs.declared.columns.ColumnStatistics.{ColumnStatistics}
use Rattle.questions.specs.declared.figures.Figure.{Figure}
use Rattle.questions.specs.Questions.{Question}
use Rattle.sheet.specs.declared.refusals.Refusal.{Refusal}
use Rattle.sheet.specs.declared.Head.{Head}
use Rattle.sheet.specs.declared.Node.{Node}
use Rattle.sheet.specs.Sheets as lent
use Rattle.sheet.specs.Calls.{Call}
use Rattle.sheet.specs.Outcomes.{Outcome, Keeps}
use Rattle.sheets.specs.declared.Sheet.{Sheet}
use Rattle.sheets.specs.Owned.{held, Called}

module _ {K E A : Type 0} (s : Sheet K E A) where
  -- the memory that a call has written is put back
  abbrev pub put_back : Head → List Node → List (ColumnStatistics K) → Sheet K E A
  put_back head nodes columns = record { head = head; nodes = with_items s.nodes nodes; columns = with_items s.columns columns; estimator = s.estimator }

  -- or none was written
  abbrev pub new_head : Head → Sheet K E A
  new_head head = record { head = head; nodes = s.nodes; columns = s.columns; estimator = s.estimator }

  module _ {nodes : List Node} {columns : List (ColumnStatistics K)} (nodes-lent : nodes ≡ vec_items s.nodes) (columns-lent : columns ≡ vec_items s.columns) where
    pub before : lent.sheet_of s.head nodes columns ≡ held s
    before = λ i. lent.sheet_of s.head (nodes-lent i) (columns-lent i)

    module _ {head' : Head} {nodes' : List Node} {columns' : List (ColumnStatistics K)} (as-many-nodes : length nodes' ≡ vec_len s.nodes) (as-many-columns : length columns' ≡ vec_len s.columns) where
      after : lent.sheet_of head' nodes' columns' ≡ held (put_back head' nodes' columns')
      after = sym (λ i. lent.sheet_of head' (with_items_is s.nodes nodes' as-many-nodes i) (with_items_is s.columns columns' as-many-columns i))

      pub outcome_put_back : {relation : K → K → Relation} {estimate : Question K → Option Figure} {call : Call K} {r : Result ℕ Refusal} → Outcome relation estimate call (lent.sheet_of s.head nodes columns) r (lent.sheet_of head' nodes' columns') → Outcome relation estimate call (held s) r (held (put_back head' nodes' columns'))
      outcome_put_back {relation} {estimate} {call} {r} o =
          subst (λ t. Outcome relation estimate call (held s) r t) after (subst (λ t. Outcome relation estimate call t r (lent.sheet_of head' nodes' columns')) before o)

      pub keeps_put_back : {relation : K → K → Relation} {estimate : Question K → Option Figure} → Keeps relation estimate (lent.sheet_of s.head nodes columns) (lent.sheet_of head' nodes' columns') → Keeps relation estimate (held s) (held (put_back head' nodes' columns'))
      keeps_put_back {relation} {estimate} k =
          subst (λ t. Keeps relation estimate (held s) t) after (subst (λ t. Keeps relation estimate t (lent.sheet_of head' nodes' columns')) before k)

      pub called_put_back : {relation : K → K → Relation} {figure : E → Question K → Option Figure} {call : Call K} {r : Result ℕ Refusal} → Outcome relation (figure s.estimator) call (lent.sheet_of s.head nodes columns) r (lent.sheet_of head' nodes' columns') → Keeps relation (figure s.estimator) (lent.sheet_of s.head nodes columns) (lent.sheet_of head' nodes' columns') → Called relation figure call s r (put_back head' nodes' columns')
      called_put_back o k = record { outcome = outcome_put_back o; keeps = keeps_put_back k; estimator = refl }

    module _ {head' : Head} where
      kept : lent.sheet_of head' nodes columns ≡ held (new_head head')
      kept = λ i. lent.sheet_of head' (nodes-lent i) (columns-lent i)

      pub outcome_of_head : {relation : K → K → Relation} {estimate : Question K → Option Figure} {call : Call K} {r : Result ℕ Refusal} → Outcome relation estimate call (lent.sheet_of s.head nodes columns) r (lent.sheet_of head' nodes columns) → Outcome relation estimate call (held s) r (held (new_head head'))
      outcome_of_head {relation} {estimate} {call} {r} o =
          subst (λ t. Outcome relation estimate call (held s) r t) kept (subst (λ t. Outcome relation estimate call t r (lent.sheet_of head' nodes columns)) before o)

      pub keeps_of_head : {relation : K → K → Relation} {estimate : Question K → Option Figure} → Keeps relation estimate (lent.sheet_of s.head nodes columns) (lent.sheet_of head' nodes columns) → Keeps relation estimate (held s) (held (new_head head'))
      keeps_of_head {relation} {estimate} k =
          subst (λ t. Keeps relation estimate (held s) t) kept (subst (λ t. Keeps relation estimate t (lent.sheet_of head' nodes columns)) before k)

      pub called_of_head : {relation : K → K → Relation} {figure : E → Question K → Option Figure} {call : Call K} {r : Result ℕ Refusal} → Outcome relation (figure s.estimator) call (lent.sheet_of s.head nodes columns) r (lent.sheet_of head' nodes columns) → Keeps relation (figure s.estimator) (lent.sheet_of s.head nodes columns) (lent.sheet_of head' nodes columns) → Called relation figure call s r (new_head head')
      called_of_head o k = record { outcome = outcome_of_head o; keeps = keeps_of_head k; estimator = refl }
