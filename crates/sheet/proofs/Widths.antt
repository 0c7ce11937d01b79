-- What an order makes has the width that was asked for. Assumes nothing.
use Rattle.std.proofs.Common.{◌≡◌, ℕ, suc, ◌+◌, ◌≤◌, Bool, true, false, leb, List, [], ◌∷◌, ◌++◌, map, length, Some, None, Option, refl, ap, ◌∙◌, arith, length-append, length-drop, length-take}
use lib.ListN.{length-map, length-replicate}
use Rattle.std.proofs.lemmas.Bool.{and_parts, leb-true}
use Rattle.stats.specs.declared.columns.ColumnStatistics.{ColumnStatistics}
use Rattle.stats.specs.Precisions.{known}
use Rattle.stats.specs.Columns.{unknown_column, column_inexact}
use Rattle.std.specs.List.{list_all}
use Rattle.questions.specs.declared.types.JoinType.{JoinType}
use Rattle.questions.specs.declared.types.JoinType.TheVariants as type
use Rattle.questions.specs.declared.types.JoinSide.TheVariants.{Left, Right}
use Rattle.questions.specs.declared.types.NullEquality.{NullEquality}
use Rattle.questions.specs.declared.types.KeySide.{KeySide}
use Rattle.questions.specs.declared.types.KeyPair.{KeyPair}
use Rattle.questions.specs.declared.figures.Figure.{Figure}
use Rattle.questions.specs.Questions.{Question}
use Rattle.sheet.specs.declared.Node.{Node}
use Rattle.sheet.specs.Sheets.{Sheet, Table, node_at, block, table_at}
use Rattle.sheet.specs.Calls.{Order, lay, join, cross, limit, union, group, children}
use Rattle.sheet.specs.Made.{unknowns, combined, columns_kept, part_by, part, key_columns, marked_by, joined_by, key_column, group_count, grouped_by}
use Rattle.sheet.specs.Causes.{block_inside, join_width, width_of, columns_fit, made}

-- ---- the parts
unknowns_length : (K : Type 0) (n : ℕ) → length (unknowns {K = K} n) ≡ n
unknowns_length K n = length-replicate n unknown_column

combined_length : {K : Type 0} (f : Option Figure) (l r : Table K) → length (combined f l r).columns ≡ length l.columns + length r.columns
combined_length (Some f) l r = length-map (l.columns ++ r.columns) column_inexact ∙ length-append l.columns r.columns
combined_length {K} None l r = unknowns_length K (length (l.columns ++ r.columns)) ∙ length-append l.columns r.columns

pub kept_length : {K : Type 0} (anti : Bool) (rule : NullEquality) (keys : List ℕ) (n m i : ℕ) (cs : List (ColumnStatistics K)) → length (columns_kept anti rule keys n m i cs) ≡ length cs
kept_length anti rule keys n m i [] = refl
kept_length anti rule keys n m i (c ∷ cs) = ap suc (kept_length anti rule keys n m (suc i) cs)

part_by_length : {K : Type 0} (anti : Bool) (rule : NullEquality) (keys : List ℕ) (f : Option Figure) (o : Option ℕ) (t : Table K) → length (part_by anti rule keys f o t).columns ≡ length t.columns
part_by_length anti rule keys f (Some n) t = kept_length anti rule keys n _ 0 t.columns
part_by_length {K} anti rule keys f None t = unknowns_length K (length t.columns)

part_length : {K : Type 0} (anti : Bool) (rule : NullEquality) (keys : List ℕ) (f : Option Figure) (t : Table K) → length (part anti rule keys f t).columns ≡ length t.columns
part_length anti rule keys f t = part_by_length anti rule keys f (known t.rows) t

marked_by_length : {K : Type 0} (o : Option ℕ) (t : Table K) → length (marked_by o t).columns ≡ length t.columns + 1
marked_by_length (Some n) t = length-append t.columns (unknown_column ∷ [])
marked_by_length {K} None t = unknowns_length K (length t.columns + 1)

pub joined_length : {K : Type 0} (t : JoinType) (rule : NullEquality) (pairs : List KeyPair) (f : Option Figure) (l r : Table K) → length (joined_by t rule pairs f l r).columns ≡ join_width t (length l.columns) (length r.columns)
joined_length type.Inner rule pairs f l r = combined_length f l r
joined_length type.Full rule pairs f l r = combined_length f l r
joined_length type.Left rule pairs f l r = combined_length f l r
joined_length type.Right rule pairs f l r = combined_length f l r
joined_length type.LeftSemi rule pairs f l r = part_length false rule (key_columns Left pairs) f l
joined_length type.RightSemi rule pairs f l r = part_length false rule (key_columns Right pairs) f r
joined_length type.LeftAnti rule pairs f l r = part_length true rule (key_columns Left pairs) f l
joined_length type.RightAnti rule pairs f l r = part_length true rule (key_columns Right pairs) f r
joined_length type.LeftMark rule pairs f l r = marked_by_length (known l.rows) l
joined_length type.RightMark rule pairs f l r = marked_by_length (known r.rows) r

pub grouped_length : {K : Type 0} (o : Option ℕ) (extras : ℕ) (keys : List KeySide) (t : Table K) → length (grouped_by o extras keys t).columns ≡ length keys + extras
grouped_length {K} (Some p) extras keys t =
    length-append (map (key_column t.columns) keys) (unknowns extras) ∙ (λ i. length-map keys (key_column t.columns) i + unknowns_length K extras i)
grouped_length {K} None extras keys t = unknowns_length K (length keys + extras)

-- ---- a block in column memory is as wide as its node
pub block_wide : {K : Type 0} (columns : List (ColumnStatistics K)) (node : Node) → node.place + node.width ≤ length columns → length (block columns node) ≡ node.width
block_wide columns node h = simp (length-take, length-drop) (omega arith)

pub block_length : {K : Type 0} (s : Sheet K) (node : Node) → node.place + node.width ≤ s.head.used → s.head.used ≤ length s.columns → length (block s.columns node) ≡ node.width
block_length s node h l = block_wide s.columns node (omega arith)

module _ {K : Type 0} (s : Sheet K) (l : s.head.used ≤ length s.columns) where
  pub table_length : (n : ℕ) → block_inside s (node_at s n) ≡ true → length (table_at s n).columns ≡ (node_at s n).width
  table_length n h = block_length s (node_at s n) (leb-true ((node_at s n).place + (node_at s n).width) s.head.used h) l

  one_inside : (n : ℕ) → list_all (λ m. block_inside s (node_at s m)) (n ∷ []) ≡ true → length (table_at s n).columns ≡ (node_at s n).width
  one_inside n h = table_length n (and_parts (block_inside s (node_at s n)) true h).0

  first_inside : (n : ℕ) (ns : List ℕ) → list_all (λ m. block_inside s (node_at s m)) (n ∷ ns) ≡ true → length (table_at s n).columns ≡ (node_at s n).width
  first_inside n ns h = table_length n (and_parts (block_inside s (node_at s n)) (list_all (λ m. block_inside s (node_at s m)) ns) h).0

  second_inside : (n m : ℕ) → list_all (λ k. block_inside s (node_at s k)) (n ∷ m ∷ []) ≡ true → length (table_at s m).columns ≡ (node_at s m).width
  second_inside n m h = one_inside m (and_parts (block_inside s (node_at s n)) (list_all (λ k. block_inside s (node_at s k)) (m ∷ [])) h).1

  made_width : (estimate : Question K → Option Figure) (o : Order K) → list_all (λ n. block_inside s (node_at s n)) (children o) ≡ true → length (made estimate s o).columns ≡ width_of s o
  made_width estimate (lay rows bytes columns) h = refl
  made_width estimate (join t rule a b pairs) h =
      joined_length t rule pairs _ (table_at s a) (table_at s b) ∙ (λ i. join_width t (first_inside a (b ∷ []) h i) (second_inside a b h i))
  made_width estimate (cross a b) h =
      length-append (table_at s a).columns (table_at s b).columns ∙ (λ i. first_inside a (b ∷ []) h i + second_inside a b h i)
  made_width estimate (limit c skip fetch) h = length-map (table_at s c).columns column_inexact ∙ one_inside c h
  made_width estimate (union []) h = refl
  made_width estimate (union (c ∷ cs)) h = unknowns_length K (length (table_at s c).columns) ∙ first_inside c cs h
  made_width estimate (group mode sets extras c keys) h = grouped_length (group_count mode sets keys (table_at s c).columns) extras keys (table_at s c)

-- the new block is as wide as asked for, and fits the column memory
module _ {K : Type 0} (estimate : Question K → Option Figure) (s : Sheet K) (o : Order K) (h : columns_fit s o ≡ true) where
  parts : (leb (s.head.used + width_of s o) (length s.columns) ≡ true) × (list_all (λ n. block_inside s (node_at s n)) (children o) ≡ true)
  parts = and_parts (leb (s.head.used + width_of s o) (length s.columns)) (list_all (λ n. block_inside s (node_at s n)) (children o)) h

  room : s.head.used + width_of s o ≤ length s.columns
  room = leb-true (s.head.used + width_of s o) (length s.columns) parts.0

  pub made_wide : length (made estimate s o).columns ≡ width_of s o
  made_wide = let r = room in made_width s (omega arith) estimate o parts.1

  pub made_fits : s.head.used + length (made estimate s o).columns ≤ length s.columns
  made_fits = let r = room in let w = made_wide in omega arith
