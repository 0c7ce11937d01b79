use Rattle.std.proofs.Common.{◌≡◌, ℕ, Some, None, Option, sym, subst}
use Rattle.std.specs.Option.{option_zip}
use Rattle.questions.specs.declared.types.JoinType.{JoinType}
use Rattle.questions.specs.declared.types.JoinSide.TheVariants.{Left}
use Rattle.questions.specs.Questions.{asked}
use Rattle.estimators.specs.KeyColumns.{keys_from}
use Rattle.estimators.specs.Product.{joined_by, product_by, product_of, Positive}
use Rattle.estimators.proofs.Divisors.{divisor_positive}
use Rattle.estimators.proofs.answerable.Answerable.product_figure.Goals as goal

-- of two known rows
of_known : (t : JoinType) (l r p : Option ℕ) (a b : ℕ) → Some (a, b) ≡ option_zip l r → product_by t a b (joined_by a b p) ≡ product_of t l r p
of_known t (Some l) (Some r) p a b e =
    let k : ◌≡◌ {A = ℕ × ℕ} (a, b) (l, r) = cc in
    λ i. product_by t (k i).0 (k i).1 (joined_by (k i).0 (k i).1 p)
of_known t (Some l) None p a b e = cc
of_known t None r p a b e = cc

pub joined_by-joined-requires : goal.joined_by-joined-requires
joined_by-joined-requires g c = subst Positive (sym c.divisor.ensures) (divisor_positive (keys_from Left (asked c.args.self.now.question.now)))

pub returns : goal.returns
returns g c =
    let t = c.args.self.now.question.now.join_type in
    let a = c.in_ok-rows.rows.left in
    let b = c.in_ok-rows.rows.right in
    rw (c.figure_by_type.ensures, c.joined_by-joined.ensures, c.divisor.ensures) (of_known t _ _ _ a b c.in_ok-rows.ensures)
