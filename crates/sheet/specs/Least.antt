-- Of several causes the smallest number is given. Assumes nothing.
use Rattle.std.specs.Prelude.{◌≡◌, ℕ, ◌≤◌, Bool, true, false, not, ◌&&◌, Some, None, Ok, Err, Option, Result, ◌==◌, nat_le}
use Rattle.keys.specs.declared.Relation.{Relation}
use Rattle.stats.specs.Precisions.{at_most}
use Rattle.stats.specs.Limits.{max_count, max_node_bytes}
use Rattle.std.specs.List.{list_all}
use Rattle.questions.specs.declared.figures.Figure.{Figure}
use Rattle.questions.specs.Questions.{Question}
use Rattle.sheet.specs.declared.refusals.Refusal.{Refusal}
use Rattle.sheet.specs.declared.refusals.Refusal.TheVariants.{NodeMemory, Child, Count, KeyIndex, Width, ColumnMemory, Rows, Bytes, Column}
use Rattle.sheet.specs.RefusalNumbers.{refusal_number}
use Rattle.sheet.specs.Sheets.{Sheet, node_at}
use Rattle.sheet.specs.Calls.{Order, Call, order, cut, children}
use Rattle.sheet.specs.Causes.{no_node_memory, short_nodes, short_columns, block_inside, fit_child, count_fits, keys_inside, width_fits, columns_fit, made, laid_unsound, cut_inside}

-- the index is not the one
abbrev pub other_than : ℕ → Option ℕ → Bool
other_than i (Some j) = not (i == j)
other_than i None = true

-- nothing asks for this refusal of an order
abbrev pub order_clear : {K : Type 0} → (K → K → Relation) → (Question K → Option Figure) → Sheet K → Order K → Refusal → Bool
order_clear relation estimate s o NodeMemory = not (no_node_memory s)
order_clear relation estimate s o Child = list_all (fit_child relation s) (children o)
order_clear relation estimate s o Count = count_fits o
order_clear relation estimate s o KeyIndex = keys_inside s o
order_clear relation estimate s o Width = width_fits s o
order_clear relation estimate s o ColumnMemory = columns_fit s o
order_clear relation estimate s o Rows = at_most max_count (made estimate s o).rows
order_clear relation estimate s o Bytes = at_most max_node_bytes (made estimate s o).bytes
order_clear relation estimate s o (Column i) = other_than i (laid_unsound relation o)

-- of a cut
abbrev pub cut_clear : {K : Type 0} → Sheet K → ℕ → Refusal → Bool
cut_clear s n NodeMemory = not (short_nodes s)
cut_clear s n Child = nat_le n s.head.count
cut_clear s n Count = true
cut_clear s n KeyIndex = true
cut_clear s n Width = true
cut_clear s n ColumnMemory = not (short_columns s) && cut_inside s n
cut_clear s n Rows = true
cut_clear s n Bytes = true
cut_clear s n (Column i) = true

-- of reading a node, which is looked at as a child is
abbrev pub read_clear : {K : Type 0} → (K → K → Relation) → Sheet K → ℕ → Refusal → Bool
read_clear relation s n NodeMemory = not (short_nodes s)
read_clear relation s n Child = fit_child relation s n
read_clear relation s n Count = true
read_clear relation s n KeyIndex = true
read_clear relation s n Width = true
read_clear relation s n ColumnMemory = not (short_columns s) && block_inside s (node_at s n)
read_clear relation s n Rows = true
read_clear relation s n Bytes = true
read_clear relation s n (Column i) = true

abbrev pub clear : {K : Type 0} → (K → K → Relation) → (Question K → Option Figure) → Call K → Sheet K → Refusal → Bool
clear relation estimate (order o) s = order_clear relation estimate s o
clear relation estimate (cut n) s = cut_clear s n

-- an answer, by the refusals that nothing asks for
pub record Least {A : Type 0} (clear : Refusal → Bool) (answer : Result A Refusal) : Type 0 where
  -- what is given has its cause
  pub caused : (r : Refusal) → answer ≡ Err r → clear r ≡ false
  -- and no other cause has a smaller number
  pub least : (r q : Refusal) → answer ≡ Err r → clear q ≡ false → refusal_number r ≤ refusal_number q
  -- what is accepted has none
  pub free : (a : A) → answer ≡ Ok a → (q : Refusal) → clear q ≡ true
