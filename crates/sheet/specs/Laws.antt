-- The laws of a sheet, over every run of calls. Assumes nothing.
use Rattle.std.specs.Prelude.{◌≡◌, ℕ, ◌+◌, ◌<◌, ◌≤◌, List, ◌++◌, map, length, take, drop, Some, None, Option}
use Rattle.std.specs.List.{AllByRecursion}
use Rattle.keys.specs.declared.Relation.{Relation}
use Rattle.stats.specs.declared.exactness.Precision.{Precision}
use Rattle.stats.specs.declared.columns.ColumnStatistics.{ColumnStatistics}
use Rattle.stats.specs.Precisions.{inexact, known}
use Rattle.stats.specs.Trim.{Ceiling}
use Rattle.questions.specs.declared.types.JoinType.{JoinType}
use Rattle.questions.specs.declared.types.JoinType.TheVariants as type
use Rattle.questions.specs.declared.types.JoinSide.{JoinSide}
use Rattle.questions.specs.declared.types.JoinSide.TheVariants.{Left, Right}
use Rattle.questions.specs.declared.types.NullEquality.{NullEquality}
use Rattle.questions.specs.declared.types.KeyPair.{KeyPair}
use Rattle.questions.specs.declared.figures.Figure.{Figure}
use Rattle.questions.specs.Types.{mirror, exchanged, semi_type, anti_type}
use Rattle.questions.specs.Questions.{Question}
use Rattle.questions.specs.Laws.{Shares, Mirrors}
use Rattle.sheet.specs.declared.Node.{Node}
use Rattle.sheet.specs.declared.operators.Operator.TheVariants as op
use Rattle.sheet.specs.Shorts.{listed}
use Rattle.sheet.specs.Sheets.{Sheet, Standing, node_at, block, table_at}
use Rattle.sheet.specs.Calls.{Call}
use Rattle.sheet.specs.Made.{join_question}
use Rattle.sheet.specs.Steps.{step}

-- no node, and no used column memory, whatever the memory holds
pub record Blank {K : Type 0} (s : Sheet K) : Type 0 where
  pub no_node : s.head.count ≡ 0
  pub no_column : s.head.used ≡ 0

-- the sheets that calls, accepted or refused, make of a blank one
pub data Reached {K : Type 0} (relation : K → K → Relation) (estimate : Question K → Option Figure) : Sheet K → Type 0 where
  start : {s : Sheet K} → Blank s → Reached relation estimate s
  next : (c : Call K) (s : Sheet K) → Reached relation estimate s → Reached relation estimate (step relation estimate c s).sheet

-- node n stands and is a join of these children by these pairs
pub record Joins {K : Type 0} (s : Sheet K) (n : ℕ) (t : JoinType) (rule : NullEquality) (l r : ℕ) (pairs : List KeyPair) : Type 0 where
  pub on : Rattle.sheet.specs.declared.shorts.Short.Short KeyPair
  pub stands : Standing s n
  pub is_join : (node_at s n).operator ≡ op.Join t rule l r on
  pub by_pairs : listed on ≡ pairs

-- types 0 to 7
abbrev pub AsksEstimator : JoinType → Type 0
AsksEstimator type.Inner = Unit {0}
AsksEstimator type.Full = Unit {0}
AsksEstimator type.Left = Unit {0}
AsksEstimator type.Right = Unit {0}
AsksEstimator type.LeftSemi = Unit {0}
AsksEstimator type.RightSemi = Unit {0}
AsksEstimator type.LeftAnti = Unit {0}
AsksEstimator type.RightAnti = Unit {0}
AsksEstimator type.LeftMark = ⊥
AsksEstimator type.RightMark = ⊥

-- the child that a semi or an anti join keeps
abbrev pub kept_child : JoinSide → ℕ → ℕ → ℕ
kept_child Left l r = l
kept_child Right l r = r

-- rows, exactness aside, that add up to others
pub record RowsAddUp (semi anti kept : Precision ℕ) : Type 0 where
  pub semi_count : ℕ
  pub anti_count : ℕ
  pub semi_is : known semi ≡ Some semi_count
  pub anti_is : known anti ≡ Some anti_count
  pub kept_is : known kept ≡ Some (semi_count + anti_count)

-- by the figures and rows of a semi and of an anti join, and the kept rows: both
-- hold figures, and their rows add up; or neither does, and both hold all of them
abbrev pub ShareBy : Option Figure → Option Figure → Precision ℕ → Precision ℕ → Precision ℕ → Type 0
ShareBy (Some f) (Some g) semi anti kept = RowsAddUp semi anti kept
ShareBy None None semi anti kept = (semi ≡ inexact kept) × (anti ≡ inexact kept)
ShareBy (Some f) None semi anti kept = ⊥
ShareBy None (Some g) semi anti kept = ⊥

abbrev pub Share : Node → Node → Precision ℕ → Type 0
Share semi anti kept = ShareBy semi.figure anti.figure semi.rows anti.rows kept

-- the columns of a join, seen from its mirror: of types 0 to 3 the first w, those
-- of the left child, stand after the others
abbrev pub seen_mirrored : {K : Type 0} → JoinType → ℕ → List (ColumnStatistics K) → List (ColumnStatistics K)
seen_mirrored type.Inner w cs = drop w cs ++ take w cs
seen_mirrored type.Full w cs = drop w cs ++ take w cs
seen_mirrored type.Left w cs = drop w cs ++ take w cs
seen_mirrored type.Right w cs = drop w cs ++ take w cs
seen_mirrored type.LeftSemi w cs = cs
seen_mirrored type.RightSemi w cs = cs
seen_mirrored type.LeftAnti w cs = cs
seen_mirrored type.RightAnti w cs = cs
seen_mirrored type.LeftMark w cs = cs
seen_mirrored type.RightMark w cs = cs

-- two nodes say the same of their tables, the columns turned round by f
pub record SameTable {K : Type 0} (columns : List (ColumnStatistics K)) (f : List (ColumnStatistics K) → List (ColumnStatistics K)) (a b : Node) : Type 0 where
  pub rows : b.rows ≡ a.rows
  pub bytes : b.bytes ≡ a.bytes
  pub figure : b.figure ≡ a.figure
  pub same_columns : block columns b ≡ f (block columns a)

-- a node is in node memory, and its block in the used part of column memory
pub record InMemory {K : Type 0} (s : Sheet K) (n : ℕ) : Type 0 where
  pub node : n ≤ length s.nodes
  pub used : (node_at s n).place + (node_at s n).width ≤ s.head.used
  pub columns : s.head.used ≤ length s.columns

-- two nodes that stand before another one
pub record Before {K : Type 0} (s : Sheet K) (l r n : ℕ) : Type 0 where
  pub left : Standing s l
  pub right : Standing s r
  pub left_before : l < n
  pub right_before : r < n

pub record Laws {K : Type 0} (estimate : Question K → Option Figure) (s : Sheet K) : Type 0 where
  -- a standing node is there to be read
  pub in_memory : (n : ℕ) → Standing s n → InMemory s n
  -- the children of a standing join stand, and have lower numbers
  pub children : (n : ℕ) (t : JoinType) (rule : NullEquality) (l r : ℕ) (pairs : List KeyPair) → Joins s n t rule l r pairs → Before s l r n
  -- in every column of a standing node with known rows, nulls and distincts
  -- together are at most those rows
  pub ceiling : (n : ℕ) → Standing s n → AllByRecursion (Ceiling (node_at s n).rows) (block s.columns (node_at s n))
  -- a join holds just the figure that the estimator has for its question
  pub figures : (n : ℕ) (t : JoinType) (rule : NullEquality) (l r : ℕ) (pairs : List KeyPair) → Joins s n t rule l r pairs → AsksEstimator t → (node_at s n).figure ≡ estimate (join_question t rule pairs (table_at s l) (table_at s r))
  -- a semi and an anti join of the same children by the same keys
  pub shares : (n m : ℕ) (side : JoinSide) (rule : NullEquality) (l r : ℕ) (pairs : List KeyPair) → Joins s n (semi_type side) rule l r pairs → Joins s m (anti_type side) rule l r pairs → Share (node_at s n) (node_at s m) (node_at s (kept_child side l r)).rows
  -- a join and its mirror
  pub mirrors : (n m : ℕ) (t : JoinType) (rule : NullEquality) (l r : ℕ) (pairs : List KeyPair) → Joins s n t rule l r pairs → Joins s m (mirror t) rule r l (map exchanged pairs) → SameTable s.columns (seen_mirrored t (node_at s l).width) (node_at s n) (node_at s m)

-- whatever is called, in whatever order, refused or not
abbrev pub LawsOverRuns : {K : Type 0} → (K → K → Relation) → (Question K → Option Figure) → Type 0
LawsOverRuns {K} relation estimate = Shares estimate → Mirrors estimate → (s : Sheet K) → Reached relation estimate s → Laws estimate s
