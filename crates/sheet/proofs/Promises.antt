-- A call that is its step keeps what every call promises. Assumes nothing.
use Rattle.std.proofs.Common.{◌≡◌, ℕ, Option, Result, sym, ap, subst}
use Rattle.keys.specs.declared.Relation.{Relation}
use Rattle.questions.specs.declared.figures.Figure.{Figure}
use Rattle.questions.specs.Questions.{Question}
use Rattle.questions.specs.Laws.{Shares, Mirrors}
use Rattle.sheet.specs.declared.refusals.Refusal.{Refusal}
use Rattle.sheet.specs.Sheets.{Sheet}
use Rattle.sheet.specs.Calls.{Call}
use Rattle.sheet.specs.Steps.{Step, stepped, step}
use Rattle.sheet.specs.Laws.{Reached, next}
use Rattle.sheet.specs.Outcomes.{Outcome, Keeps, OutcomeForAll, KeepsForAll}
use Rattle.sheet.proofs.LawsHold.{laws_over_runs_lem}
use Rattle.sheet.proofs.LeastNumber.{step_least}

module _ {K : Type 0} (relation : K → K → Relation) (estimate : Question K → Option Figure) (c : Call K) (s t : Sheet K) (answer : Result ℕ Refusal) (e : stepped answer t ≡ step relation estimate c s) where
  pub outcome : Outcome relation estimate c s answer t
  outcome = record { steps = e; least = step_least relation estimate c s answer (ap (λ (x : Step K). x.answer) e) }

  reaches : Reached relation estimate s → Reached relation estimate t
  reaches r = subst (Reached relation estimate) (sym (ap (λ (x : Step K). x.sheet) e)) (next c s r)

  pub keeps : Shares estimate → Mirrors estimate → Keeps relation estimate s t
  keeps shares mirrors = record { reached = reaches; laws = λ r. laws_over_runs_lem relation estimate shares mirrors t (reaches r) }

-- the same of a call that asks no estimator
module _ {K : Type 0} (relation : K → K → Relation) (c : Call K) {s t : Sheet K} {answer : Result ℕ Refusal} (e : (estimate : Question K → Option Figure) → stepped answer t ≡ step relation estimate c s) where
  pub outcome_for_all : OutcomeForAll relation c s answer t
  outcome_for_all = λ estimate. outcome relation estimate c s t answer (e estimate)

  pub keeps_for_all : KeepsForAll relation s t
  keeps_for_all = λ estimate. keeps relation estimate c s t answer (e estimate)
