-- What a call does: it is refused and leaves the sheet, or adds a node, or cuts.
-- Assumes nothing.
use Rattle.std.specs.Prelude.{ℕ, ◌+◌, cond, map, length, Some, None, Ok, Err, Option, Result, ◌==◌, slice_set}
use Rattle.std.proofs.Math.Seq.{paste}
use Rattle.std.specs.Option.{option_or}
use Rattle.keys.specs.declared.Relation.{Relation}
use Rattle.stats.specs.declared.exactness.Precision.{Precision}
use Rattle.stats.specs.Trim.{trimmed}
use Rattle.questions.specs.declared.figures.Figure.{Figure}
use Rattle.questions.specs.Questions.{Question}
use Rattle.sheet.specs.declared.Node.{Node}
use Rattle.sheet.specs.declared.operators.Operator.{Operator}
use Rattle.sheet.specs.declared.refusals.Refusal.{Refusal}
use Rattle.sheet.specs.Sheets.{Sheet, node_at}
use Rattle.sheet.specs.Calls.{Call, order, cut, operator_of}
use Rattle.sheet.specs.Made.{Made}
use Rattle.sheet.specs.Causes.{made, size_refusal, order_refusal, cut_refusal}

-- an answer, and the sheet after it
pub record Step (K : Type 0) : Type 0 where
  pub answer : Result ℕ Refusal
  pub sheet : Sheet K

abbrev pub stepped : {K : Type 0} → Result ℕ Refusal → Sheet K → Step K
stepped r s = record { answer = r; sheet = s }

-- a node of these values, its block at a place
abbrev pub node_made : Operator → Precision ℕ → Precision ℕ → Option Figure → ℕ → ℕ → Node
node_made operator rows bytes figure place width = record { rows = rows; bytes = bytes; place = place; width = width; figure = figure; operator = operator }

-- one node more, its block after the used part, its columns trimmed to its rows
abbrev pub with_node : {K : Type 0} → Operator → Made K → Sheet K → Sheet K
with_node operator m s =
    let width = length m.columns in
    record {
      head = record { count = s.head.count + 1; used = s.head.used + width };
      nodes = slice_set s.nodes s.head.count (record {
        rows = m.rows;
        bytes = m.bytes;
        place = s.head.used;
        width = width;
        figure = m.figure;
        operator = operator;
      });
      columns = paste s.columns s.head.used (map (trimmed m.rows) m.columns) width;
    }

-- nodes 1 to n, and their part of the column memory
abbrev pub cut_to : {K : Type 0} → ℕ → Sheet K → Sheet K
cut_to n s = record {
  head = record { count = n; used = cond (n == 0) 0 ((node_at s n).place + (node_at s n).width) };
  nodes = s.nodes;
  columns = s.columns;
}

-- an estimator that has no figure
abbrev pub no_figure : {K : Type 0} → Question K → Option Figure
no_figure q = None

-- a check's answer: nothing, or the refusal
abbrev pub checked : Option Refusal → Result (Unit {0}) Refusal
checked None = Ok tt
checked (Some r) = Err r

-- the refusal, or else a value
abbrev pub answered : {A : Type 0} → Option Refusal → A → Result A Refusal
answered (Some r) a = Err r
answered None a = Ok a

-- a refusal leaves the sheet as it was
abbrev pub settled : {K : Type 0} → Option Refusal → Sheet K → Sheet K → Step K
settled (Some r) s t = stepped (Err r) s
settled None s t = stepped (Ok t.head.count) t

-- an order that makes m, unless an early cause or the size of m refuses it
abbrev pub carried : {K : Type 0} → Option Refusal → Operator → Made K → Sheet K → Step K
carried early operator m s = settled (option_or early (option_or (size_refusal m) None)) s (with_node operator m s)

abbrev pub step : {K : Type 0} → (K → K → Relation) → (Question K → Option Figure) → Call K → Sheet K → Step K
step relation estimate (order o) s = settled (order_refusal relation estimate s o) s (with_node (operator_of o) (made estimate s o) s)
step relation estimate (cut n) s = settled (cut_refusal s n) s (cut_to n s)
