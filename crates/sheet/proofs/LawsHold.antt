-- The laws hold of every sheet that calls reach. Assumes nothing.
use Rattle.std.proofs.Common.{◌≡◌, ℕ, ◌+◌, ◌-◌, ◌<◌, Bool, true, false, List, [], ◌∷◌, ◌++◌, map, length, take, drop, Some, None, Option, sym, refl, ap, ◌∙◌, subst, arith}
use lib.ListN.{length-map}
use Rattle.std.proofs.lemmas.List.{take_at, drop_at, map-append}
use Rattle.std.proofs.lemmas.Simd.{map-map}
use Rattle.keys.specs.declared.Relation.{Relation}
use Rattle.stats.specs.declared.exactness.Precision.{Precision}
use Rattle.stats.specs.declared.exactness.Precision.TheVariants.{Exact, Inexact, Absent}
use Rattle.stats.specs.declared.columns.ColumnStatistics.{ColumnStatistics}
use Rattle.stats.specs.Precisions.{known, inexact}
use Rattle.stats.specs.Columns.{unknown_column, column_inexact}
use Rattle.stats.specs.Trim.{trimmed}
use Rattle.questions.specs.declared.types.JoinType.{JoinType}
use Rattle.questions.specs.declared.types.JoinType.TheVariants as type
use Rattle.questions.specs.declared.types.JoinSide.{JoinSide}
use Rattle.questions.specs.declared.types.JoinSide.TheVariants.{Left, Right}
use Rattle.questions.specs.declared.types.NullEquality.{NullEquality}
use Rattle.questions.specs.declared.types.KeySide.{KeySide}
use Rattle.questions.specs.declared.types.KeySide.TheVariants.{Column, Expression}
use Rattle.questions.specs.declared.types.KeyPair.{KeyPair}
use Rattle.questions.specs.declared.figures.Figure.{Figure}
use Rattle.questions.specs.declared.figures.Figure.TheVariants as figure
use Rattle.questions.specs.Types.{mirror, exchanged, semi_type, anti_type}
use Rattle.questions.specs.Figures.{rows_of, amount}
use Rattle.questions.specs.Questions.{Question}
use Rattle.questions.specs.Laws.{AddUp, Shares, Mirrors}
use Rattle.sheet.specs.declared.Node.{Node}
use Rattle.sheet.specs.Sheets.{Sheet, Table, Standing, node_at, table_at}
use Rattle.sheet.specs.Made.{Made, unknowns, join_question, combined, key_of, key_columns, part_by, part, joined_by, joined}
use Rattle.sheet.specs.Laws.{Joins, AsksEstimator, kept_child, RowsAddUp, ShareBy, Share, seen_mirrored, SameTable, Before, Laws, LawsOverRuns}
use Rattle.sheet.proofs.Widths.{block_length}
use Rattle.sheet.proofs.Sound.{Holds, JoinHolds, Sound, reached_sound}

-- ---- a join holds the figure that it asked for
combined_figure : {K : Type 0} (f : Option Figure) (l r : Table K) → (combined f l r).figure ≡ f
combined_figure (Some f) l r = refl
combined_figure None l r = refl

part_figure : {K : Type 0} (anti : Bool) (rule : NullEquality) (keys : List ℕ) (f : Option Figure) (o : Option ℕ) (t : Table K) → (part_by anti rule keys f o t).figure ≡ f
part_figure anti rule keys f (Some n) t = refl
part_figure anti rule keys f None t = refl

pub asked_figure : {K : Type 0} (t : JoinType) → AsksEstimator t → (rule : NullEquality) (pairs : List KeyPair) (f : Option Figure) (l r : Table K) → (joined_by t rule pairs f l r).figure ≡ f
asked_figure type.Inner a rule pairs f l r = combined_figure f l r
asked_figure type.Full a rule pairs f l r = combined_figure f l r
asked_figure type.Left a rule pairs f l r = combined_figure f l r
asked_figure type.Right a rule pairs f l r = combined_figure f l r
asked_figure type.LeftSemi a rule pairs f l r = part_figure false rule (key_columns Left pairs) f (known l.rows) l
asked_figure type.RightSemi a rule pairs f l r = part_figure false rule (key_columns Right pairs) f (known r.rows) r
asked_figure type.LeftAnti a rule pairs f l r = part_figure true rule (key_columns Left pairs) f (known l.rows) l
asked_figure type.RightAnti a rule pairs f l r = part_figure true rule (key_columns Right pairs) f (known r.rows) r
asked_figure type.LeftMark a rule pairs f l r = absurd a
asked_figure type.RightMark a rule pairs f l r = absurd a

-- ---- shares
rows_amount : (f : Figure) → known (rows_of f) ≡ Some (amount f)
rows_amount (figure.Exact n) = refl
rows_amount (figure.Inexact n) = refl

added : (f g : Figure) (kept : Precision ℕ) → known kept ≡ Some (amount f + amount g) → RowsAddUp (rows_of f) (rows_of g) kept
added f g kept h = record { semi_count = amount f; anti_count = amount g; semi_is = rows_amount f; anti_is = rows_amount g; kept_is = h }

module _ {K : Type 0} (rule : NullEquality) (keys : List ℕ) (t : Table K) where
  share_known : (n : ℕ) (f g : Option Figure) → AddUp f g t.rows → ShareBy f g (part_by false rule keys f (Some n) t).rows (part_by true rule keys g (Some n) t).rows t.rows
  share_known n None None h = (refl, refl)
  share_known n None (Some g) h = absurd h
  share_known n (Some f) None h = absurd h
  share_known n (Some f) (Some g) h = added f g t.rows h

  share_by : (o : Option ℕ) (f g : Option Figure) → known t.rows ≡ o → AddUp f g t.rows → ShareBy f g (part_by false rule keys f o t).rows (part_by true rule keys g o t).rows t.rows
  share_by (Some n) f g e h = share_known n f g h
  share_by None None None e h = let z = absent t.rows e in (sym (ap inexact z), sym (ap inexact z))
    where
      absent : (p : Precision ℕ) → known p ≡ None → p ≡ Absent
      absent (Exact v) e = cc
      absent (Inexact v) e = cc
      absent Absent e = refl
  share_by None None (Some g) e h = absurd h
  share_by None (Some f) None e h = absurd h
  share_by None (Some f) (Some g) e h = cc

  parts_share : (f g : Option Figure) → AddUp f g t.rows → ShareBy (part false rule keys f t).figure (part true rule keys g t).figure (part false rule keys f t).rows (part true rule keys g t).rows t.rows
  parts_share f g h =
      subst (λ (x : Option Figure). ShareBy x (part true rule keys g t).figure (part false rule keys f t).rows (part true rule keys g t).rows t.rows) (sym (part_figure false rule keys f (known t.rows) t))
      (subst (λ (x : Option Figure). ShareBy f x (part false rule keys f t).rows (part true rule keys g t).rows t.rows) (sym (part_figure true rule keys g (known t.rows) t))
      (share_by (known t.rows) f g refl h))

held_share : {K : Type 0} (columns : List (ColumnStatistics K)) (a b : Node) (x y : Made K) (kept : Precision ℕ) → Holds columns a x → Holds columns b y → ShareBy x.figure y.figure x.rows y.rows kept → Share a b kept
held_share columns a b x y kept h k s =
    subst (λ (f : Option Figure). ShareBy f b.figure a.rows b.rows kept) (sym h.figure)
    (subst (λ (f : Option Figure). ShareBy x.figure f a.rows b.rows kept) (sym k.figure)
    (subst (λ (p : Precision ℕ). ShareBy x.figure y.figure p b.rows kept) (sym h.rows)
    (subst (λ (p : Precision ℕ). ShareBy x.figure y.figure x.rows p kept) (sym k.rows) s)))

-- ---- mirrors
exchange : {A B : Type 0} (f : A → B) (xs ys : List A) (w : ℕ) → length xs ≡ w → map f (ys ++ xs) ≡ drop w (map f (xs ++ ys)) ++ take w (map f (xs ++ ys))
exchange f xs ys w e =
    let l = length-map xs f ∙ e in
    map-append f ys xs ∙ sym ((λ i. drop w (map-append f xs ys i) ++ take w (map-append f xs ys i)) ∙ (λ i. drop_at (map f xs) (map f ys) w l i ++ take_at (map f xs) (map f ys) w l i))

unknown_each : {K : Type 0} (cs : List (ColumnStatistics K)) → unknowns {K = K} (length cs) ≡ map (λ (c : ColumnStatistics K). unknown_column) cs
unknown_each [] = refl
unknown_each (c ∷ cs) = ap (λ zs. unknown_column ∷ zs) (unknown_each cs)

key_turned : (a b : KeySide) → key_of Right b a ≡ key_of Left a b
key_turned (Column i) (Column j) = refl
key_turned (Column i) Expression = refl
key_turned Expression (Column j) = refl
key_turned Expression Expression = refl

keys_left : (ps : List KeyPair) → key_columns Right (map exchanged ps) ≡ key_columns Left ps
keys_left [] = refl
keys_left (p ∷ ps) = λ i. key_turned p.left p.right i ++ keys_left ps i

keys_right : (ps : List KeyPair) → key_columns Left (map exchanged ps) ≡ key_columns Right ps
keys_right [] = refl
keys_right (p ∷ ps) = λ i. sym (key_turned p.right p.left) i ++ keys_right ps i

-- what two joins make, the columns of the one turned round
pub record SameMade {K : Type 0} (turn : List (ColumnStatistics K) → List (ColumnStatistics K)) (a b : Made K) : Type 0 where
  pub rows : b.rows ≡ a.rows
  pub bytes : b.bytes ≡ a.bytes
  pub figure : b.figure ≡ a.figure
  pub columns : map (trimmed b.rows) b.columns ≡ turn (map (trimmed a.rows) a.columns)

all_same : {K : Type 0} (a b : Made K) → b ≡ a → SameMade (λ cs. cs) a b
all_same a b e = record {
  rows = ap (λ (m : Made _). m.rows) e;
  bytes = ap (λ (m : Made _). m.bytes) e;
  figure = ap (λ (m : Made _). m.figure) e;
  columns = ap (λ (m : Made _). map (trimmed m.rows) m.columns) e;
}

combined_mirror : {K : Type 0} (f : Option Figure) (l r : Table K) (w : ℕ) → length l.columns ≡ w → SameMade (λ cs. drop w cs ++ take w cs) (combined f l r) (combined f r l)
combined_mirror (Some f) l r w e =
    let rows = inexact (rows_of f) in
    record {
      rows = refl;
      bytes = refl;
      figure = refl;
      columns =
          map-map (trimmed rows) column_inexact (r.columns ++ l.columns) ∙
          exchange (λ c. trimmed rows (column_inexact c)) l.columns r.columns w e ∙
          sym (ap (λ cs. drop w cs ++ take w cs) (map-map (trimmed rows) column_inexact (l.columns ++ r.columns)));
    }
combined_mirror {K} None l r w e =
    let each : (cs : List (ColumnStatistics K)) → map (trimmed Absent) (unknowns {K = K} (length cs)) ≡ map (λ (c : ColumnStatistics K). trimmed Absent unknown_column) cs = λ cs. ap (map (trimmed Absent)) (unknown_each cs) ∙ map-map (trimmed Absent) (λ c. unknown_column) cs in
    record {
      rows = refl;
      bytes = refl;
      figure = refl;
      columns =
          each (r.columns ++ l.columns) ∙
          exchange (λ c. trimmed Absent unknown_column) l.columns r.columns w e ∙
          sym (ap (λ cs. drop w cs ++ take w cs) (each (l.columns ++ r.columns)));
    }

joined_mirror : {K : Type 0} (t : JoinType) (rule : NullEquality) (pairs : List KeyPair) (f : Option Figure) (l r : Table K) (w : ℕ) → length l.columns ≡ w → SameMade (seen_mirrored t w) (joined_by t rule pairs f l r) (joined_by (mirror t) rule (map exchanged pairs) f r l)
joined_mirror type.Inner rule pairs f l r w e = combined_mirror f l r w e
joined_mirror type.Full rule pairs f l r w e = combined_mirror f l r w e
joined_mirror type.Left rule pairs f l r w e = combined_mirror f l r w e
joined_mirror type.Right rule pairs f l r w e = combined_mirror f l r w e
joined_mirror type.LeftSemi rule pairs f l r w e = all_same _ _ (ap (λ ks. part false rule ks f l) (keys_left pairs))
joined_mirror type.RightSemi rule pairs f l r w e = all_same _ _ (ap (λ ks. part false rule ks f r) (keys_right pairs))
joined_mirror type.LeftAnti rule pairs f l r w e = all_same _ _ (ap (λ ks. part true rule ks f l) (keys_left pairs))
joined_mirror type.RightAnti rule pairs f l r w e = all_same _ _ (ap (λ ks. part true rule ks f r) (keys_right pairs))
joined_mirror type.LeftMark rule pairs f l r w e = all_same _ _ refl
joined_mirror type.RightMark rule pairs f l r w e = all_same _ _ refl

held_same : {K : Type 0} (columns : List (ColumnStatistics K)) (turn : List (ColumnStatistics K) → List (ColumnStatistics K)) (a b : Node) (x y : Made K) → Holds columns a x → Holds columns b y → SameMade turn x y → SameTable columns turn a b
held_same columns turn a b x y h k s = record {
  rows = k.rows ∙ s.rows ∙ sym h.rows;
  bytes = k.bytes ∙ s.bytes ∙ sym h.bytes;
  figure = k.figure ∙ s.figure ∙ sym h.figure;
  same_columns = k.same_columns ∙ s.columns ∙ sym (ap turn h.same_columns);
}

-- ---- all four
module _ {K : Type 0} (estimate : Question K → Option Figure) (shares : Shares estimate) (mirrors : Mirrors estimate) (s : Sheet K) (h : Sound estimate s) where
  place : (n : ℕ) → Standing s n → n - 1 < s.head.count
  place n st = omega (arith, st.from_1, st.to_last)

  join_at : (n : ℕ) (t : JoinType) (rule : NullEquality) (l r : ℕ) (pairs : List KeyPair) (j : Joins s n t rule l r pairs) → JoinHolds estimate s (n - 1) t rule l r j.on
  join_at n t rule l r pairs j = (h.fits (n - 1) (place n j.stands)).joins t rule l r j.on j.is_join

  made_at : (n : ℕ) (t : JoinType) (rule : NullEquality) (l r : ℕ) (pairs : List KeyPair) → Joins s n t rule l r pairs → Holds s.columns (node_at s n) (joined estimate t rule pairs (table_at s l) (table_at s r))
  made_at n t rule l r pairs j =
      subst (λ (ps : List KeyPair). Holds s.columns (node_at s n) (joined estimate t rule ps (table_at s l) (table_at s r))) j.by_pairs (join_at n t rule l r pairs j).holds

  left_width : (n : ℕ) (t : JoinType) (rule : NullEquality) (l r : ℕ) (pairs : List KeyPair) → Joins s n t rule l r pairs → length (table_at s l).columns ≡ (node_at s l).width
  left_width n t rule l r pairs j =
      let k = join_at n t rule l r pairs j in
      block_length s (node_at s l) (h.ends (l - 1) (omega (arith, k.left_from, k.left_below, place n j.stands))) h.within

  share_at : (side : JoinSide) (n m : ℕ) (rule : NullEquality) (l r : ℕ) (pairs : List KeyPair) → Joins s n (semi_type side) rule l r pairs → Joins s m (anti_type side) rule l r pairs → Share (node_at s n) (node_at s m) (node_at s (kept_child side l r)).rows
  share_at Left n m rule l r pairs i j =
      held_share s.columns (node_at s n) (node_at s m) _ _ _ (made_at n type.LeftSemi rule l r pairs i) (made_at m type.LeftAnti rule l r pairs j)
      (parts_share rule (key_columns Left pairs) (table_at s l) _ _ (shares.left (join_question type.LeftSemi rule pairs (table_at s l) (table_at s r))))
  share_at Right n m rule l r pairs i j =
      held_share s.columns (node_at s n) (node_at s m) _ _ _ (made_at n type.RightSemi rule l r pairs i) (made_at m type.RightAnti rule l r pairs j)
      (parts_share rule (key_columns Right pairs) (table_at s r) _ _ (shares.right (join_question type.RightSemi rule pairs (table_at s l) (table_at s r))))

  mirror_at : (n m : ℕ) (t : JoinType) (rule : NullEquality) (l r : ℕ) (pairs : List KeyPair) → Joins s n t rule l r pairs → Joins s m (mirror t) rule r l (map exchanged pairs) → SameTable s.columns (seen_mirrored t (node_at s l).width) (node_at s n) (node_at s m)
  mirror_at n m t rule l r pairs i j =
      let q = join_question t rule pairs (table_at s l) (table_at s r) in
      let same = ap (λ f. joined_by (mirror t) rule (map exchanged pairs) f (table_at s r) (table_at s l)) (mirrors q) in
      held_same s.columns (seen_mirrored t (node_at s l).width) (node_at s n) (node_at s m) _ _ (made_at n t rule l r pairs i) (subst (Holds s.columns (node_at s m)) same (made_at m (mirror t) rule r l (map exchanged pairs) j))
      (joined_mirror t rule pairs (estimate q) (table_at s l) (table_at s r) (node_at s l).width (left_width n t rule l r pairs i))

  before_at : (n : ℕ) (t : JoinType) (rule : NullEquality) (l r : ℕ) (pairs : List KeyPair) → Joins s n t rule l r pairs → Before s l r n
  before_at n t rule l r pairs j =
      let k = join_at n t rule l r pairs j in
      let p = place n j.stands in
      let f = j.stands.from_1 in
      record {
        left = record { from_1 = k.left_from; to_last = omega (arith, k.left_below, p) };
        right = record { from_1 = k.right_from; to_last = omega (arith, k.right_below, p) };
        left_before = omega (arith, k.left_below, f);
        right_before = omega (arith, k.right_below, f);
      }

  laws_hold : Laws estimate s
  laws_hold = record {
    in_memory = λ n st. record { node = omega (arith, st.to_last, h.counted); used = h.ends (n - 1) (place n st); columns = h.within };
    children = before_at;
    ceiling = λ n st. (h.fits (n - 1) (place n st)).ceiling;
    figures = λ n t rule l r pairs j a. (made_at n t rule l r pairs j).figure ∙ asked_figure t a rule pairs _ (table_at s l) (table_at s r);
    shares = λ n m side rule l r pairs i j. share_at side n m rule l r pairs i j;
    mirrors = mirror_at;
  }

pub laws_over_runs_lem : {K : Type 0} (relation : K → K → Relation) (estimate : Question K → Option Figure) → LawsOverRuns relation estimate
laws_over_runs_lem relation estimate shares mirrors s r = laws_hold estimate shares mirrors s (reached_sound estimate relation s r)
