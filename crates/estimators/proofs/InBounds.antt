-- The figures of our estimators stay in bounds. Assumes nothing.
use Rattle.std.proofs.Common.{◌≡◌, ℕ, ◌+◌, ◌≤◌, max, Bool, true, false, cond, Some, None, Option, sym, arith}
use Rattle.keys.specs.declared.Relation.{Relation}
use Rattle.stats.specs.declared.exactness.Precision.{Precision}
use Rattle.stats.specs.declared.exactness.Precision.TheVariants as rows
use Rattle.stats.specs.Precisions.{known, both}
use Rattle.questions.specs.declared.types.JoinSide.{JoinSide}
use Rattle.questions.specs.declared.types.JoinSide.TheVariants.{Left, Right}
use Rattle.questions.specs.declared.types.JoinType.TheVariants as join
use Rattle.questions.specs.declared.figures.Figure.{Figure}
use Rattle.questions.specs.declared.figures.Figure.TheVariants.{Exact, Inexact}
use Rattle.questions.specs.Figures.{figure_of, amount}
use Rattle.questions.specs.Questions.{Question, of_type, this_input}
use Rattle.questions.specs.Laws.{AddUp, Shares}
use Rattle.estimators.specs.Answerable.{answerable}
use Rattle.estimators.specs.KeyColumns.{keys_from}
use Rattle.estimators.specs.Widest.{inner_rows}
use Rattle.estimators.specs.WidestFigures.{widest_figure}
use Rattle.estimators.specs.Product.{divisor, joined_by, product_of, product_figure}
use Rattle.questions.specs.Types.{semi_type, anti_type}
use Rattle.estimators.specs.Bounds.{outer_type, Bounds}
use Rattle.estimators.specs.WidestLaws.{widest_shares}
use Rattle.estimators.specs.ProductLaws.{product_shares}

-- ---- each of two figures that add up to the rows is at most the rows
within : (a b : Option Figure) (rows : Precision ℕ) (n : ℕ) → AddUp a b rows → known rows ≡ Some n → ((f : Figure) → a ≡ Some f → amount f ≤ n) × ((f : Figure) → b ≡ Some f → amount f ≤ n)
within None None rows n h k = (λ f e. cc, λ f e. cc)
within None (Some y) rows n h k = absurd h
within (Some x) None rows n h k = absurd h
within (Some x) (Some y) rows n h k =
    let j : n ≡ amount x + amount y = cc in
    (λ f e. let i : x ≡ f = cc in rw (sym i) (omega arith), λ f e. let i : y ≡ f = cc in rw (sym i) (omega arith))

module _ {K : Type 0} (figure : Question K → Option Figure) (shares : Shares figure) where
  shared : (s : JoinSide) (q : Question K) → AddUp (figure (of_type (semi_type s) q)) (figure (of_type (anti_type s) q)) (this_input s q).rows
  shared Left q = shares.left q
  shared Right q = shares.right q

  bounded : ((s : JoinSide) (q : Question K) (f : Figure) (n : ℕ) → figure (of_type (outer_type s) q) ≡ Some f → known (this_input s q).rows ≡ Some n → n ≤ amount f) → Bounds figure
  bounded outer = record {
    semi = λ s q f n e k. (within _ _ (this_input s q).rows n (shared s q) k).0 f e;
    anti = λ s q f n e k. (within _ _ (this_input s q).rows n (shared s q) k).1 f e;
    outer = outer;
  }

-- ---- outer joins
from_cond : (b : Bool) (o : Option Figure) (f : Figure) → cond b o None ≡ Some f → o ≡ Some f
from_cond true o f e = e
from_cond false o f e = cc

max_holds : (p q : Precision ℕ) (f : Figure) (n : ℕ) → figure_of (both max p q) ≡ Some f → known q ≡ Some n → n ≤ amount f
max_holds (rows.Exact a) (rows.Exact b) f n e k = let i : Exact (max a b) ≡ f = cc in let j : b ≡ n = cc in rw (sym i) (omega arith)
max_holds (rows.Exact a) (rows.Inexact b) f n e k = let i : Inexact (max a b) ≡ f = cc in let j : b ≡ n = cc in rw (sym i) (omega arith)
max_holds (rows.Exact a) rows.Absent f n e k = cc
max_holds (rows.Inexact a) (rows.Exact b) f n e k = let i : Inexact (max a b) ≡ f = cc in let j : b ≡ n = cc in rw (sym i) (omega arith)
max_holds (rows.Inexact a) (rows.Inexact b) f n e k = let i : Inexact (max a b) ≡ f = cc in let j : b ≡ n = cc in rw (sym i) (omega arith)
max_holds (rows.Inexact a) rows.Absent f n e k = cc
max_holds rows.Absent q f n e k = cc

module _ {K : Type 0} (relation : K → K → Relation) (size : K → K → Option ℕ) where
  widest_outer : (s : JoinSide) (q : Question K) (f : Figure) (n : ℕ) → widest_figure relation size (of_type (outer_type s) q) ≡ Some f → known (this_input s q).rows ≡ Some n → n ≤ amount f
  widest_outer Left q f n e k = max_holds (inner_rows relation size q) q.left.rows f n (from_cond (answerable relation q) _ f e) k
  widest_outer Right q f n e k = max_holds (inner_rows relation size q) q.right.rows f n (from_cond (answerable relation q) _ f e) k

  pub widest_bounds : Bounds (widest_figure relation size)
  widest_bounds = bounded (widest_figure relation size) (widest_shares relation size) widest_outer

left_holds : (l r p : Option ℕ) (f : Figure) (n : ℕ) → product_of join.Left l r p ≡ Some f → l ≡ Some n → n ≤ amount f
left_holds (Some l) (Some r) p f n e k = max_holds (rows.Inexact (joined_by l r p)) (rows.Inexact l) f n e k
left_holds (Some l) None p f n e k = cc
left_holds None r p f n e k = cc

right_holds : (l r p : Option ℕ) (f : Figure) (n : ℕ) → product_of join.Right l r p ≡ Some f → r ≡ Some n → n ≤ amount f
right_holds (Some l) (Some r) p f n e k = max_holds (rows.Inexact (joined_by l r p)) (rows.Inexact r) f n e k
right_holds (Some l) None p f n e k = cc
right_holds None r p f n e k = cc

module _ {K : Type 0} (relation : K → K → Relation) where
  product_outer : (s : JoinSide) (q : Question K) (f : Figure) (n : ℕ) → product_figure relation (of_type (outer_type s) q) ≡ Some f → known (this_input s q).rows ≡ Some n → n ≤ amount f
  product_outer Left q f n e k = left_holds (known q.left.rows) (known q.right.rows) (divisor (keys_from Left q)) f n (from_cond (answerable relation q) _ f e) k
  product_outer Right q f n e k = right_holds (known q.left.rows) (known q.right.rows) (divisor (keys_from Left q)) f n (from_cond (answerable relation q) _ f e) k

  pub product_bounds : Bounds (product_figure relation)
  product_bounds = bounded (product_figure relation) (product_shares relation) product_outer
