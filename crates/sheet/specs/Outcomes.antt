-- What every call promises. Assumes nothing.
use Rattle.std.specs.Prelude.{◌≡◌, ℕ, Option, Result}
use Rattle.keys.specs.declared.Relation.{Relation}
use Rattle.questions.specs.declared.figures.Figure.{Figure}
use Rattle.questions.specs.Questions.{Question}
use Rattle.questions.specs.Laws.{Shares, Mirrors}
use Rattle.sheet.specs.declared.refusals.Refusal.{Refusal}
use Rattle.sheet.specs.Sheets.{Sheet}
use Rattle.sheet.specs.Calls.{Call}
use Rattle.sheet.specs.Steps.{stepped, step}
use Rattle.sheet.specs.Least.{clear, Least}
use Rattle.sheet.specs.Laws.{Reached, Laws}

-- a call on s, its answer, and the sheet t after it
pub record Outcome {K : Type 0} (relation : K → K → Relation) (estimate : Question K → Option Figure) (call : Call K) (s : Sheet K) (answer : Result ℕ Refusal) (t : Sheet K) : Type 0 where
  -- answer and sheet are those of the step
  pub steps : stepped answer t ≡ step relation estimate call s
  -- a refusal has the least number with a cause
  pub least : Least (clear relation estimate call s) answer

-- if s is reached, then t is, and the laws hold of it
pub record Keeps {K : Type 0} (relation : K → K → Relation) (estimate : Question K → Option Figure) (s t : Sheet K) : Type 0 where
  pub reached : Reached relation estimate s → Reached relation estimate t
  pub laws : Reached relation estimate s → Laws estimate t

-- a call that asks no estimator: the same above each of them
abbrev pub OutcomeForAll : {K : Type 0} → (K → K → Relation) → Call K → Sheet K → Result ℕ Refusal → Sheet K → Type 0
OutcomeForAll {K} relation call s answer t = (estimate : Question K → Option Figure) → Outcome relation estimate call s answer t

abbrev pub KeepsForAll : {K : Type 0} → (K → K → Relation) → Sheet K → Sheet K → Type 0
KeepsForAll {K} relation s t = (estimate : Question K → Option Figure) → Shares estimate → Mirrors estimate → Keeps relation estimate s t
