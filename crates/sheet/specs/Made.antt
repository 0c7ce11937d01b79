-- What a call makes of its children: a node's rows, bytes, figure and columns,
-- before the columns are trimmed to the rows. Assumes nothing.
use Rattle.std.specs.Prelude.{ℕ, suc, ◌+◌, ◌-◌, ◌*◌, min, Bool, true, false, cond, ◌&&◌, ◌||◌, List, [], ◌∷◌, ◌++◌, map, length, get_or, replicate, Some, None, fold, Option, ◌==◌, nat_le, slice_index_or}
use Rattle.stats.specs.declared.exactness.Precision.{Precision}
use Rattle.stats.specs.declared.exactness.Precision.TheVariants.{Exact, Inexact, Absent}
use Rattle.stats.specs.declared.columns.ColumnStatistics.{ColumnStatistics}
use Rattle.stats.specs.Precisions.{inexact, known, both, total, capped, or_zero}
use Rattle.stats.specs.Columns.{unknown_column, column_inexact}
use Rattle.stats.specs.Scaling.{scaled}
use Rattle.stats.specs.Bytes.{rescaled_bytes}
use Rattle.stats.specs.Products.{stopping_product}
use Rattle.questions.specs.declared.types.JoinType.{JoinType}
use Rattle.questions.specs.declared.types.JoinType.TheVariants as type
use Rattle.questions.specs.declared.types.JoinSide.{JoinSide}
use Rattle.questions.specs.declared.types.JoinSide.TheVariants.{Left, Right}
use Rattle.questions.specs.declared.types.NullEquality.{NullEquality}
use Rattle.questions.specs.declared.types.NullEquality.TheVariants.{NullEqualsNothing, NullEqualsNull}
use Rattle.questions.specs.declared.types.KeySide.{KeySide}
use Rattle.questions.specs.declared.types.KeySide.TheVariants.{Column, Expression}
use Rattle.questions.specs.declared.types.KeyPair.{KeyPair}
use Rattle.questions.specs.declared.figures.Figure.{Figure}
use Rattle.questions.specs.Figures.{rows_of}
use Rattle.questions.specs.Questions.{Question}
use Rattle.sheet.specs.declared.operators.AggregateMode.{AggregateMode}
use Rattle.sheet.specs.declared.operators.AggregateMode.TheVariants as mode
use Rattle.sheet.specs.Sheets.{Table}

pub record Made (K : Type 0) : Type 0 where
  pub rows : Precision ℕ
  pub bytes : Precision ℕ
  pub figure : Option Figure
  pub columns : List (ColumnStatistics K)

-- so many columns of which nothing is known
abbrev pub unknowns : {K : Type 0} → ℕ → List (ColumnStatistics K)
unknowns n = replicate n unknown_column

-- ---- joins
abbrev pub join_question : {K : Type 0} → JoinType → NullEquality → List KeyPair → Table K → Table K → Question K
join_question t rule pairs l r = record {
  join_type = t;
  null_rule = rule;
  pairs = pairs;
  left = record { rows = l.rows; columns = l.columns };
  right = record { rows = r.rows; columns = r.columns };
}

-- the rows of an inner or an outer join
abbrev pub combined_rows : Option Figure → Precision ℕ
combined_rows (Some f) = inexact (rows_of f)
combined_rows None = Absent

-- inner and outer joins: the columns of both children
abbrev pub combined : {K : Type 0} → Option Figure → Table K → Table K → Made K
combined (Some f) l r = record {
  rows = inexact (rows_of f);
  bytes = Absent;
  figure = Some f;
  columns = map column_inexact (l.columns ++ r.columns);
}
combined None l r = record {
  rows = Absent;
  bytes = Absent;
  figure = None;
  columns = unknowns (length (l.columns ++ r.columns));
}

-- the key columns of a side: those of pairs with two columns
abbrev pub key_of : JoinSide → KeySide → KeySide → List ℕ
key_of Left (Column i) (Column j) = i ∷ []
key_of Right (Column i) (Column j) = j ∷ []
key_of s (Column i) Expression = []
key_of s Expression k = []

abbrev pub key_columns : JoinSide → List KeyPair → List ℕ
key_columns s [] = []
key_columns s (p ∷ ps) = key_of s p.left p.right ++ key_columns s ps

abbrev pub among : ℕ → List ℕ → Bool
among i [] = false
among i (k ∷ ks) = i == k || among i ks

-- nulls of a column in m of n rows; of a key column, where null equals nothing,
-- none in a semi join and all of them in an anti join
abbrev pub nulls_kept : Bool → NullEquality → Bool → ℕ → ℕ → Precision ℕ → Precision ℕ
nulls_kept anti NullEqualsNull key n m nulls = capped m (scaled nulls n m)
nulls_kept false NullEqualsNothing true n m nulls = Exact 0
nulls_kept true NullEqualsNothing true n m nulls = capped m (inexact nulls)
nulls_kept anti NullEqualsNothing false n m nulls = capped m (scaled nulls n m)

-- a column in m of n rows
abbrev pub column_kept : {K : Type 0} → Bool → NullEquality → Bool → ℕ → ℕ → ColumnStatistics K → ColumnStatistics K
column_kept anti rule key n m c =
    let nulls = nulls_kept anti rule key n m c.null_count in
    record {
      null_count = nulls;
      distinct_count = capped (m - or_zero nulls) (inexact c.distinct_count);
      byte_size = scaled c.byte_size n m;
      min_value = inexact c.min_value;
      max_value = inexact c.max_value;
    }

-- the columns from index i on
abbrev pub columns_kept : {K : Type 0} → Bool → NullEquality → List ℕ → ℕ → ℕ → ℕ → List (ColumnStatistics K) → List (ColumnStatistics K)
columns_kept anti rule keys n m i [] = []
columns_kept anti rule keys n m i (c ∷ cs) = column_kept anti rule (among i keys) n m c ∷ columns_kept anti rule keys n m (suc i) cs

-- Inexact, Absent if one is, 0 for no columns
abbrev pub bytes_sum : {K : Type 0} → List (ColumnStatistics K) → Precision ℕ
bytes_sum cs = inexact (fold (λ sum c. total sum c.byte_size) (Exact 0) cs)

-- the figure, or the kept rows made Inexact
abbrev pub rows_kept : Option Figure → Precision ℕ → Precision ℕ
rows_kept (Some f) rows = rows_of f
rows_kept None rows = inexact rows

-- semi and anti joins: a part of the kept rows
abbrev pub part_by : {K : Type 0} → Bool → NullEquality → List ℕ → Option Figure → Option ℕ → Table K → Made K
part_by anti rule keys f (Some n) t =
    let new = rows_kept f t.rows in
    let columns = columns_kept anti rule keys n (or_zero new) 0 t.columns in
    record { rows = new; bytes = bytes_sum columns; figure = f; columns = columns }
part_by anti rule keys f None t = record {
  rows = Absent;
  bytes = Absent;
  figure = f;
  columns = unknowns (length t.columns);
}

abbrev pub part : {K : Type 0} → Bool → NullEquality → List ℕ → Option Figure → Table K → Made K
part anti rule keys f t = part_by anti rule keys f (known t.rows) t

-- mark joins: every kept row, and one column more
abbrev pub marked_by : {K : Type 0} → Option ℕ → Table K → Made K
marked_by (Some n) t = record { rows = inexact t.rows; bytes = Absent; figure = None; columns = t.columns ++ (unknown_column ∷ []) }
marked_by None t = record { rows = Absent; bytes = Absent; figure = None; columns = unknowns (length t.columns + 1) }

abbrev pub marked : {K : Type 0} → Table K → Made K
marked t = marked_by (known t.rows) t

abbrev pub joined_by : {K : Type 0} → JoinType → NullEquality → List KeyPair → Option Figure → Table K → Table K → Made K
joined_by type.Inner rule pairs f l r = combined f l r
joined_by type.Full rule pairs f l r = combined f l r
joined_by type.Left rule pairs f l r = combined f l r
joined_by type.Right rule pairs f l r = combined f l r
joined_by type.LeftSemi rule pairs f l r = part false rule (key_columns Left pairs) f l
joined_by type.RightSemi rule pairs f l r = part false rule (key_columns Right pairs) f r
joined_by type.LeftAnti rule pairs f l r = part true rule (key_columns Left pairs) f l
joined_by type.RightAnti rule pairs f l r = part true rule (key_columns Right pairs) f r
joined_by type.LeftMark rule pairs f l r = marked l
joined_by type.RightMark rule pairs f l r = marked r

-- the figure that a join holds: a mark join holds none
abbrev pub figure_held : JoinType → Option Figure → Option Figure
figure_held type.Inner f = f
figure_held type.Full f = f
figure_held type.Left f = f
figure_held type.Right f = f
figure_held type.LeftSemi f = f
figure_held type.RightSemi f = f
figure_held type.LeftAnti f = f
figure_held type.RightAnti f = f
figure_held type.LeftMark f = None
figure_held type.RightMark f = None

-- a join of types 0 to 7 asks the estimator; mark joins hold no figure
abbrev pub joined : {K : Type 0} → (Question K → Option Figure) → JoinType → NullEquality → List KeyPair → Table K → Table K → Made K
joined estimate t rule pairs l r = joined_by t rule pairs (estimate (join_question t rule pairs l r)) l r

-- ---- the other operators
abbrev pub crossed : {K : Type 0} → Table K → Table K → Made K
crossed l r = record {
  rows = both ◌*◌ l.rows r.rows;
  bytes = Absent;
  figure = None;
  columns = l.columns ++ r.columns;
}

abbrev pub fetched : Option ℕ → ℕ → ℕ
fetched (Some most) n = min n most
fetched None n = n

abbrev pub limit_rows : ℕ → Option ℕ → Precision ℕ → Precision ℕ
limit_rows skip fetch (Exact n) = Exact (fetched fetch (n - skip))
limit_rows skip fetch (Inexact n) = Inexact (fetched fetch (n - skip))
limit_rows skip (Some most) Absent = Inexact most
limit_rows skip None Absent = Absent

abbrev pub limited : {K : Type 0} → ℕ → Option ℕ → Table K → Made K
limited skip fetch t =
    let new = limit_rows skip fetch t.rows in
    record { rows = new; bytes = rescaled_bytes t.bytes t.rows new; figure = None; columns = map column_inexact t.columns }

-- the width of the first of some tables
abbrev pub first_width : {K : Type 0} → List (Table K) → ℕ
first_width [] = 0
first_width (t ∷ ts) = length t.columns

abbrev pub united : {K : Type 0} → List (Table K) → Made K
united ts =
    let all = fold (λ sum t. total sum t.rows) (Exact 0) ts in
    record {
      rows = all;
      bytes = rescaled_bytes (fold (λ sum t. total sum t.bytes) (Exact 0) ts) all all;
      figure = None;
      columns = unknowns (first_width ts);
    }

-- the partial modes give no count of groups
abbrev pub whole_mode : AggregateMode → Bool
whole_mode mode.Partial = false
whole_mode mode.Final = true
whole_mode mode.FinalPartitioned = true
whole_mode mode.Single = true
whole_mode mode.SinglePartitioned = true
whole_mode mode.PartialReduce = false

abbrev pub above_zero : Option ℕ → Option ℕ
above_zero None = None
above_zero (Some n) = cond (n == 0) None (Some n)

-- the groups that a key alone gives
abbrev pub key_groups : {K : Type 0} → List (ColumnStatistics K) → KeySide → Option ℕ
key_groups columns (Column i) = above_zero (known (get_or columns i unknown_column).distinct_count)
key_groups columns Expression = None

-- a product that stops at 2 ^ 64 - 1
abbrev pub groups_times : Option ℕ → Option ℕ → Option ℕ
groups_times p d = stopping_product p d

abbrev pub some_keys : List KeySide → Bool
some_keys [] = false
some_keys (k ∷ ks) = true

-- the groups of all keys
abbrev pub group_count : {K : Type 0} → AggregateMode → ℕ → List KeySide → List (ColumnStatistics K) → Option ℕ
group_count mode sets keys columns =
    cond (whole_mode mode && (nat_le sets 1 && some_keys keys)) (fold (λ p k. groups_times p (key_groups columns k)) (Some 1) keys) None

-- at most the known rows
abbrev pub at_most_rows : ℕ → Option ℕ → ℕ
at_most_rows p (Some n) = min p n
at_most_rows p None = p

abbrev pub key_column : {K : Type 0} → List (ColumnStatistics K) → KeySide → ColumnStatistics K
key_column columns (Column i) = column_inexact (slice_index_or columns i unknown_column)
key_column columns Expression = unknown_column

-- rows and bytes of so many groups of a table's rows
abbrev pub groups_rows : Option ℕ → Precision ℕ → Precision ℕ
groups_rows (Some p) rows = Inexact (at_most_rows p (known rows))
groups_rows None rows = Absent

abbrev pub groups_bytes : Option ℕ → Precision ℕ → Precision ℕ → Precision ℕ
groups_bytes (Some p) rows bytes = rescaled_bytes bytes rows (groups_rows (Some p) rows)
groups_bytes None rows bytes = Absent

abbrev pub grouped_by : {K : Type 0} → Option ℕ → ℕ → List KeySide → Table K → Made K
grouped_by (Some p) extras keys t =
    let new = Inexact (at_most_rows p (known t.rows)) in
    record {
      rows = new;
      bytes = rescaled_bytes t.bytes t.rows new;
      figure = None;
      columns = map (key_column t.columns) keys ++ unknowns extras;
    }
grouped_by None extras keys t = record {
  rows = Absent;
  bytes = Absent;
  figure = None;
  columns = unknowns (length keys + extras);
}

abbrev pub grouped : {K : Type 0} → AggregateMode → ℕ → ℕ → List KeySide → Table K → Made K
grouped mode sets extras keys t = grouped_by (group_count mode sets keys t.columns) extras keys t
