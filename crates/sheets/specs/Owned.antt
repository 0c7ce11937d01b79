-- What an owned sheet holds, and what its calls do. Assumes nothing.
use Rattle.std.specs.Prelude.{◌≡◌, ℕ, Option, Result, length, vec_items}
use Rattle.keys.specs.declared.Relation.{Relation}
use Rattle.questions.specs.declared.figures.Figure.{Figure}
use Rattle.questions.specs.Questions.{Question}
use Rattle.sheet.specs.declared.refusals.Refusal.{Refusal}
use Rattle.sheet.specs.Sheets as lent
use Rattle.sheet.specs.Calls.{Call}
use Rattle.sheet.specs.Laws.{Blank}
use Rattle.sheet.specs.Outcomes.{Outcome, Keeps}
use Rattle.sheets.specs.declared.Sheet.{Sheet}

module _ {K E A : Type 0} where
  -- the sheet that its calls see
  abbrev pub held : Sheet K E A → lent.Sheet K
  held s = lent.sheet_of s.head (vec_items s.nodes) (vec_items s.columns)

  -- blank, with memory for so many nodes and columns, above an estimator
  pub record Fresh (nodes columns : ℕ) (estimator : E) (s : Sheet K E A) : Type 0 where
    pub blank : Blank (held s)
    pub node_memory : length (held s).nodes ≡ nodes
    pub column_memory : length (held s).columns ≡ columns
    pub asks : s.estimator ≡ estimator

  -- a call on a sheet, its answer, and the sheet after it: as on the memory that it
  -- lends, above its estimator, which stays
  pub record Called (relation : K → K → Relation) (figure : E → Question K → Option Figure) (call : Call K) (s : Sheet K E A) (answer : Result ℕ Refusal) (t : Sheet K E A) : Type 0 where
    pub outcome : Outcome relation (figure s.estimator) call (held s) answer (held t)
    pub keeps : Keeps relation (figure s.estimator) (held s) (held t)
    pub estimator : t.estimator ≡ s.estimator
