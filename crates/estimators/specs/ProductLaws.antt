-- Product keeps the two laws. Assumes nothing.
use Rattle.std.specs.Prelude.{◌≡◌, ℕ, ◌-◌, ◌/◌, max, List, map, Some, None, fold, Option, refl}
use Rattle.std.proofs.Common.{sym, ap, ◌∙◌, add_comm, mul_comm, arith}
use Rattle.std.proofs.lemmas.Bool.Decides.{nat_tests}
use Rattle.std.proofs.lemmas.List.Folds.{fold-map}
use Rattle.keys.specs.declared.Relation.{Relation}
use Rattle.stats.specs.declared.exactness.Precision.{Precision}
use Rattle.stats.specs.Precisions.{known}
use Rattle.questions.specs.declared.types.JoinType.{JoinType}
use Rattle.questions.specs.declared.types.JoinType.TheVariants as join
use Rattle.questions.specs.declared.types.JoinSide.TheVariants.{Left}
use Rattle.questions.specs.declared.figures.Figure.TheVariants.{Inexact}
use Rattle.questions.specs.Types.{mirror}
use Rattle.questions.specs.Questions.{Question, mirrored}
use Rattle.questions.specs.Laws.{AddUp, Shares, Mirrors}
use Rattle.estimators.specs.declared.pairs.KeyColumns.{KeyColumns}
use Rattle.estimators.specs.KeyColumns.{turned, columns_from, keys_from}
use Rattle.estimators.specs.Answerable.{answerable}
use Rattle.estimators.specs.Product.{larger_distinct, stopping_product, divisor, joined_by, product_by, product_of, product_figure}
use Rattle.estimators.specs.MirroredKeys.{keys_mirrored, answerable_mirrored}
use Rattle.estimators.specs.WidestLaws.{share_cond, same_cond}

-- ---- shares
left_shares : (rows : Precision ℕ) (l r : Option ℕ) (p : Option ℕ) → known rows ≡ l → AddUp (product_of join.LeftSemi l r p) (product_of join.LeftAnti l r p) rows
left_shares rows (Some l) (Some r) p e = e ∙ ap Some (omega arith)
left_shares rows (Some l) None p e = tt
left_shares rows None r p e = tt

right_shares : (rows : Precision ℕ) (l r : Option ℕ) (p : Option ℕ) → known rows ≡ r → AddUp (product_of join.RightSemi l r p) (product_of join.RightAnti l r p) rows
right_shares rows (Some l) (Some r) p e = e ∙ ap Some (omega arith)
right_shares rows (Some l) None p e = tt
right_shares rows None r p e = tt

pub product_shares : {K : Type 0} (relation : K → K → Relation) → Shares (product_figure relation)
product_shares relation = record {
  left = λ q. share_cond (answerable relation q) _ _ q.left.rows (λ h. left_shares q.left.rows (known q.left.rows) (known q.right.rows) (divisor (keys_from Left q)) refl);
  right = λ q. share_cond (answerable relation q) _ _ q.right.rows (λ h. right_shares q.right.rows (known q.left.rows) (known q.right.rows) (divisor (keys_from Left q)) refl);
}

-- ---- mirrors
larger_swap : (a b : Option ℕ) → larger_distinct a b ≡ larger_distinct b a
larger_swap (Some a) (Some b) = grind (arith, nat_tests)
larger_swap (Some a) None = refl
larger_swap None (Some b) = refl
larger_swap None None = refl

divisor_from : {A K : Type 0} (p : Option ℕ) (f : A → KeyColumns K) (xs : List A) → fold (λ p k. stopping_product p (larger_distinct (known k.this.distinct_count) (known k.other.distinct_count))) p (map (λ x. turned (f x)) xs) ≡ fold (λ p k. stopping_product p (larger_distinct (known k.this.distinct_count) (known k.other.distinct_count))) p (map f xs)
divisor_from p f xs =
    fold-map (λ p k. stopping_product p (larger_distinct (known k.this.distinct_count) (known k.other.distinct_count))) (λ x. turned (f x)) p xs ∙
    (λ i. fold (λ p x. stopping_product p (larger_swap (known (f x).other.distinct_count) (known (f x).this.distinct_count) i)) p xs) ∙
    sym (fold-map (λ p k. stopping_product p (larger_distinct (known k.this.distinct_count) (known k.other.distinct_count))) f p xs)

divisor_mirrored : {K : Type 0} (q : Question K) → divisor (keys_from Left (mirrored q)) ≡ divisor (keys_from Left q)
divisor_mirrored q = ap divisor (keys_mirrored Left q) ∙ divisor_from (Some 1) (columns_from Left q) q.pairs

joined_swap : (l r : ℕ) (p : Option ℕ) → joined_by r l p ≡ joined_by l r p
joined_swap l r None = mul_comm r l
joined_swap l r (Some p) = ap (λ (n : ℕ). n / p) (mul_comm r l)

by_mirror : (t : JoinType) (l r j : ℕ) → product_by (mirror t) r l j ≡ product_by t l r j
by_mirror join.Inner l r j = refl
by_mirror join.Full l r j = ap (λ (n : ℕ). Some (Inexact (max j (n - j)))) (add_comm r l)
by_mirror join.Left l r j = refl
by_mirror join.Right l r j = refl
by_mirror join.LeftSemi l r j = refl
by_mirror join.RightSemi l r j = refl
by_mirror join.LeftAnti l r j = refl
by_mirror join.RightAnti l r j = refl
by_mirror join.LeftMark l r j = refl
by_mirror join.RightMark l r j = refl

of_mirror : (t : JoinType) (l r p : Option ℕ) → product_of (mirror t) r l p ≡ product_of t l r p
of_mirror t (Some l) (Some r) p = ap (product_by (mirror t) r l) (joined_swap l r p) ∙ by_mirror t l r (joined_by l r p)
of_mirror t (Some l) None p = refl
of_mirror t None (Some r) p = refl
of_mirror t None None p = refl

pub product_mirrors : {K : Type 0} (relation : K → K → Relation) → Mirrors (product_figure relation)
product_mirrors relation q =
    let l = known q.left.rows in
    let r = known q.right.rows in
    same_cond (answerable relation (mirrored q)) (answerable relation q) (product_of (mirror q.join_type) r l (divisor (keys_from Left (mirrored q)))) (product_of q.join_type l r (divisor (keys_from Left q))) (answerable_mirrored relation q)
    (λ h. ap (product_of (mirror q.join_type) r l) (divisor_mirrored q) ∙ of_mirror q.join_type l r (divisor (keys_from Left q)))
