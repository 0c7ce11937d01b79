-- The columns of semi and anti joins: key columns, bytes, columns. Assumes nothing.
use Rattle.std.proofs.Common.{◌≡◌, ℕ, zero, suc, ◌+◌, ◌<◌, Bool, true, false, ◌||◌, eqb, List, [], ◌∷◌, ◌++◌, length, get_or, fold, sym, refl, ap, ◌∙◌, arith}
use native.Mathlib.Numerals.{unary_clauses}
use Rattle.std.specs.List.{list_any}
use Rattle.stats.specs.declared.exactness.Precision.{Precision}
use Rattle.stats.specs.declared.exactness.Precision.TheVariants.{Exact}
use Rattle.stats.specs.declared.columns.ColumnStatistics.{ColumnStatistics}
use Rattle.stats.specs.Precisions.{inexact, total}
use Rattle.stats.specs.Scaling.{scaled}
use Rattle.questions.specs.declared.types.JoinSide.{JoinSide}
use Rattle.questions.specs.declared.types.NullEquality.{NullEquality}
use Rattle.questions.specs.declared.types.KeyPair.{KeyPair}
use Rattle.sheet.specs.Made.{among, key_of, key_columns, column_kept, columns_kept, bytes_sum}

-- ---- key columns
or_assoc : (a b c : Bool) → ((a || b) || c) ≡ (a || (b || c))
or_assoc true b c = refl
or_assoc false b c = refl

among_append : (i : ℕ) (xs ys : List ℕ) → among i (xs ++ ys) ≡ (among i xs || among i ys)
among_append i [] ys = refl
among_append i (x ∷ xs) ys = ap (λ (b : Bool). eqb i x || b) (among_append i xs ys) ∙ sym (or_assoc (eqb i x) (among i xs) (among i ys))

-- a key column of the pairs is one of some pair
pub any_is : (side : JoinSide) (i : ℕ) (ps : List KeyPair) → list_any (λ (p : KeyPair). among i (key_of side p.left p.right)) ps ≡ among i (key_columns side ps)
any_is side i [] = refl
any_is side i (p ∷ ps) =
    ap (λ (b : Bool). among i (key_of side p.left p.right) || b) (any_is side i ps) ∙ sym (among_append i (key_of side p.left p.right) (key_columns side ps))

-- ---- the columns of a part
module _ {K : Type 0} (anti : Bool) (rule : NullEquality) (keys : List ℕ) (n m : ℕ) where
  -- their bytes do not depend on the keys
  sum_kept : (p : Precision ℕ) (j : ℕ) (cs : List (ColumnStatistics K)) → fold (λ sum c. total sum c.byte_size) p (columns_kept anti rule keys n m j cs) ≡ fold (λ sum c. total sum (scaled c.byte_size n m)) p cs
  sum_kept p j [] = refl
  sum_kept p j (c ∷ cs) = sum_kept (total p (scaled c.byte_size n m)) (suc j) cs

  pub bytes_kept : (cs : List (ColumnStatistics K)) → inexact (fold (λ sum c. total sum (scaled c.byte_size n m)) (Exact 0) cs) ≡ bytes_sum (columns_kept anti rule keys n m 0 cs)
  bytes_kept cs = ap inexact (sym (sum_kept (Exact 0) 0 cs))

  kept_from : (j : ℕ) (cs : List (ColumnStatistics K)) (i : ℕ) (d e : ColumnStatistics K) → i < length cs → get_or (columns_kept anti rule keys n m j cs) i d ≡ column_kept anti rule (among (j + i) keys) n m (get_or cs i e)
  kept_from j [] i d e h = absurd (omega arith)
  kept_from j (c ∷ cs) zero d e h = ap (λ k. column_kept anti rule (among k keys) n m c) (simp unary_clauses refl)
  kept_from j (c ∷ cs) (suc i) d e h =
      let r = kept_from (suc j) cs i d e (omega arith) in
      let z : suc j + i ≡ j + suc i = omega arith in
      r ∙ ap (λ k. column_kept anti rule (among k keys) n m (get_or cs i e)) z

  -- the column that is written at i
  pub kept_at : (cs : List (ColumnStatistics K)) (i : ℕ) (x y : ColumnStatistics K) → i < length cs → x ≡ get_or cs i x → y ≡ column_kept anti rule (among i keys) n m x → y ≡ get_or (columns_kept anti rule keys n m 0 cs) i y
  kept_at cs i x y h read is =
      let z : 0 + i ≡ i = omega arith in
      is ∙ ap (column_kept anti rule (among i keys) n m) read ∙ sym (kept_from 0 cs i y x h ∙ ap (λ k. column_kept anti rule (among k keys) n m (get_or cs i x)) z)
