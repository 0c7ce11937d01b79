-- The causes of a refusal, each by itself; the answer is the least number whose
-- cause holds. Assumes nothing.
use Rattle.std.specs.Prelude.{ℕ, ◌+◌, ◌-◌, Bool, true, cond, not, ◌&&◌, ◌||◌, List, [], ◌∷◌, map, length, Some, None, Option, ◌==◌, nat_eq, nat_le, nat_lt, slice_index_or}
use Rattle.std.specs.Option.{option_map, option_or}
use Rattle.keys.specs.declared.Relation.{Relation}
use Rattle.stats.specs.declared.exactness.Precision.{Precision}
use Rattle.stats.specs.declared.columns.ColumnStatistics.{ColumnStatistics}
use Rattle.stats.specs.Precisions.{at_most}
use Rattle.stats.specs.Limits.{max_count, max_node_bytes}
use Rattle.stats.specs.Columns.{sound}
use Rattle.std.specs.List.{list_all}
use Rattle.questions.specs.declared.types.JoinType.{JoinType}
use Rattle.questions.specs.declared.types.JoinType.TheVariants as type
use Rattle.questions.specs.declared.figures.Figure.{Figure}
use Rattle.questions.specs.Types.{max_pairs, key_inside, pair_inside}
use Rattle.questions.specs.Questions.{Question}
use Rattle.sheet.specs.declared.Node.{Node}
use Rattle.sheet.specs.declared.refusals.Refusal.{Refusal}
use Rattle.sheet.specs.declared.refusals.Refusal.TheVariants as refusal
use Rattle.sheet.specs.Sheets.{Sheet, no_node, node_at, block, table_at}
use Rattle.sheet.specs.Calls.{Order, lay, join, cross, limit, union, group, children}
use Rattle.sheet.specs.Made.{Made, joined, crossed, limited, united, grouped}

abbrev pub max_nodes : ℕ
max_nodes = 256

abbrev pub max_width : ℕ
max_width = 64

abbrev pub max_children : ℕ
max_children = 8

-- ---- 1: no room for a node, or node memory shorter than the head says
abbrev pub no_node_memory : {K : Type 0} → Sheet K → Bool
no_node_memory s = nat_le max_nodes s.head.count || nat_le (length s.nodes) s.head.count

abbrev pub short_nodes : {K : Type 0} → Sheet K → Bool
short_nodes s = nat_lt (length s.nodes) s.head.count

-- ---- 6: column memory and blocks
abbrev pub short_columns : {K : Type 0} → Sheet K → Bool
short_columns s = nat_lt (length s.columns) s.head.used

-- the block lies in the used part
abbrev pub block_inside : {K : Type 0} → Sheet K → Node → Bool
block_inside s node = nat_le (node.place + node.width) s.head.used

-- ---- 2: a child that does not stand, is beyond the limits or has an unlawful column
abbrev pub stands : {K : Type 0} → Sheet K → ℕ → Bool
stands s n = nat_le 1 n && nat_le n s.head.count

abbrev pub in_limits : Node → Bool
in_limits node = at_most max_count node.rows && (at_most max_node_bytes node.bytes && nat_le node.width max_width)

module _ {K : Type 0} (relation : K → K → Relation) where
  -- columns are looked at only where they can be read
  abbrev pub columns_sound : Sheet K → Node → Bool
  columns_sound s node = short_columns s || (not (block_inside s node) || list_all (sound relation) (block s.columns node))

  abbrev pub fit_child : Sheet K → ℕ → Bool
  fit_child s n = stands s n && (in_limits (node_at s n) && columns_sound s (node_at s n))

-- ---- 3: too many keys or children, or no children
abbrev pub count_fits : {K : Type 0} → Order K → Bool
count_fits (lay rows bytes columns) = true
count_fits (join t rule l r pairs) = nat_le (length pairs) max_pairs
count_fits (cross l r) = true
count_fits (limit c skip fetch) = true
count_fits (union cs) = nat_le 1 (length cs) && nat_le (length cs) max_children
count_fits (group mode sets extras c keys) = nat_le (length keys) max_pairs

-- ---- 4: a key index not below its child's width
abbrev pub keys_inside : {K : Type 0} → Sheet K → Order K → Bool
keys_inside s (lay rows bytes columns) = true
keys_inside s (join t rule l r pairs) = list_all (pair_inside (node_at s l).width (node_at s r).width) pairs
keys_inside s (cross l r) = true
keys_inside s (limit c skip fetch) = true
keys_inside s (union cs) = true
keys_inside s (group mode sets extras c keys) = list_all (key_inside (node_at s c).width) keys

-- ---- 5: the width of the new node
abbrev pub join_width : JoinType → ℕ → ℕ → ℕ
join_width type.Inner l r = l + r
join_width type.Full l r = l + r
join_width type.Left l r = l + r
join_width type.Right l r = l + r
join_width type.LeftSemi l r = l
join_width type.RightSemi l r = r
join_width type.LeftAnti l r = l
join_width type.RightAnti l r = r
join_width type.LeftMark l r = l + 1
join_width type.RightMark l r = r + 1

-- that of the first child
abbrev pub union_width : {K : Type 0} → Sheet K → List ℕ → ℕ
union_width s [] = 0
union_width s (c ∷ cs) = (node_at s c).width

-- the same, from node memory
abbrev pub width_of_first : List Node → List ℕ → ℕ
width_of_first nodes [] = 0
width_of_first nodes (c ∷ cs) = (slice_index_or nodes (c - 1) no_node).width

abbrev pub width_of : {K : Type 0} → Sheet K → Order K → ℕ
width_of s (lay rows bytes columns) = length columns
width_of s (join t rule l r pairs) = join_width t (node_at s l).width (node_at s r).width
width_of s (cross l r) = (node_at s l).width + (node_at s r).width
width_of s (limit c skip fetch) = (node_at s c).width
width_of s (union cs) = union_width s cs
width_of s (group mode sets extras c keys) = length keys + extras

-- the children of a union are of one width
abbrev pub same_widths : {K : Type 0} → Sheet K → Order K → Bool
same_widths s (lay rows bytes columns) = true
same_widths s (join t rule l r pairs) = true
same_widths s (cross l r) = true
same_widths s (limit c skip fetch) = true
same_widths s (union cs) = list_all (λ c. nat_eq (node_at s c).width (union_width s cs)) cs
same_widths s (group mode sets extras c keys) = true

abbrev pub width_fits : {K : Type 0} → Sheet K → Order K → Bool
width_fits s o = same_widths s o && nat_le (width_of s o) max_width

-- ---- 6: room for the new block, and every child's block inside the used part
abbrev pub columns_fit : {K : Type 0} → Sheet K → Order K → Bool
columns_fit s o = nat_le (s.head.used + width_of s o) (length s.columns) && list_all (λ n. block_inside s (node_at s n)) (children o)

-- ---- 7 and 8: what the order makes
abbrev pub made : {K : Type 0} → (Question K → Option Figure) → Sheet K → Order K → Made K
made estimate s (lay rows bytes columns) = record { rows = rows; bytes = bytes; figure = None; columns = columns }
made estimate s (join t rule l r pairs) = joined estimate t rule pairs (table_at s l) (table_at s r)
made estimate s (cross l r) = crossed (table_at s l) (table_at s r)
made estimate s (limit c skip fetch) = limited skip fetch (table_at s c)
made estimate s (union cs) = united (map (table_at s) cs)
made estimate s (group mode sets extras c keys) = grouped mode sets extras keys (table_at s c)

-- ---- 9: the first laid column over the limits or unlawful
abbrev pub unsound_from : {K : Type 0} → (K → K → Relation) → ℕ → List (ColumnStatistics K) → Option ℕ
unsound_from relation i [] = None
unsound_from relation i (c ∷ cs) = cond (sound relation c) (unsound_from relation (i + 1) cs) (Some i)

abbrev pub first_unsound : {K : Type 0} → (K → K → Relation) → List (ColumnStatistics K) → Option ℕ
first_unsound relation cs = unsound_from relation 0 cs

abbrev pub laid_unsound : {K : Type 0} → (K → K → Relation) → Order K → Option ℕ
laid_unsound relation (lay rows bytes columns) = first_unsound relation columns
laid_unsound relation (join t rule l r pairs) = None
laid_unsound relation (cross l r) = None
laid_unsound relation (limit c skip fetch) = None
laid_unsound relation (union cs) = None
laid_unsound relation (group mode sets extras c keys) = None

-- ---- the least number with a cause
abbrev pub unless : Bool → Refusal → Option Refusal → Option Refusal
unless fine r next = cond fine next (Some r)

-- 1 to 6, from the sheet and the order
abbrev pub early_refusal : {K : Type 0} → (K → K → Relation) → Sheet K → Order K → Option Refusal
early_refusal relation s o =
    unless (not (no_node_memory s)) refusal.NodeMemory
    (unless (list_all (fit_child relation s) (children o)) refusal.Child
    (unless (count_fits o) refusal.Count
    (unless (keys_inside s o) refusal.KeyIndex
    (unless (width_fits s o) refusal.Width
    (unless (columns_fit s o) refusal.ColumnMemory None)))))

-- 7 and 8, from what the order makes
abbrev pub sizes : Precision ℕ → Precision ℕ → Option Refusal
sizes rows bytes = unless (at_most max_count rows) refusal.Rows (unless (at_most max_node_bytes bytes) refusal.Bytes None)

abbrev pub size_refusal : {K : Type 0} → Made K → Option Refusal
size_refusal m = sizes m.rows m.bytes

abbrev pub order_refusal : {K : Type 0} → (K → K → Relation) → (Question K → Option Figure) → Sheet K → Order K → Option Refusal
order_refusal relation estimate s o =
    option_or (early_refusal relation s o)
    (option_or (size_refusal (made estimate s o)) (option_map refusal.Column (laid_unsound relation o)))

-- a cut to 0 has no block
abbrev pub cut_inside : {K : Type 0} → Sheet K → ℕ → Bool
cut_inside s n = n == 0 || block_inside s (node_at s n)

abbrev pub cut_refusal : {K : Type 0} → Sheet K → ℕ → Option Refusal
cut_refusal s n =
    unless (not (short_nodes s)) refusal.NodeMemory
    (unless (nat_le n s.head.count) refusal.Child
    (unless (not (short_columns s) && cut_inside s n) refusal.ColumnMemory None))
