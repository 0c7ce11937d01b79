-- Widest keeps the two laws. Assumes nothing.
use Rattle.std.specs.Prelude.{◌≡◌, ℕ, ◌-◌, ◌^◌, max, Bool, true, false, cond, Some, None, Option, refl}
use Rattle.std.proofs.Common.{sym, ap, subst, ◌∙◌, arith}
use Rattle.std.specs.Option.{option_map}
use Rattle.std.proofs.lemmas.Bool.{leb-true}
use Rattle.keys.specs.declared.Relation.{Relation}
use Rattle.keys.specs.Laws.{Lawful}
use Rattle.stats.specs.declared.exactness.Precision.{Precision}
use Rattle.stats.specs.declared.exactness.Precision.TheVariants.{Exact, Inexact, Absent}
use Rattle.stats.specs.Precisions.{known, both, or_zero, total, at_most, AtMost}
use Rattle.stats.specs.Limits.{max_count}
use Rattle.questions.specs.declared.types.JoinType.{JoinType}
use Rattle.questions.specs.declared.types.JoinType.TheVariants as join
use Rattle.questions.specs.declared.types.JoinSide.{JoinSide}
use Rattle.questions.specs.declared.types.JoinSide.TheVariants.{Left, Right}
use Rattle.questions.specs.declared.figures.Figure.{Figure}
use Rattle.questions.specs.declared.figures.Figure.TheVariants as figure
use Rattle.questions.specs.Types.{mirror, opposite}
use Rattle.questions.specs.Figures.{figure_of}
use Rattle.questions.specs.Questions.{Question, mirrored, this_input, other_input}
use Rattle.questions.specs.Laws.{AddUp, Shares, Mirrors}
use Rattle.estimators.specs.Answerable.{answerable}
use Rattle.estimators.specs.KeyColumns.{keys_from}
use Rattle.estimators.specs.Widest.{inner_rows}
use Rattle.estimators.specs.Semi.{semi_of, semi_rows}
use Rattle.estimators.specs.WidestFigures.{semi_figure, anti_figure, widest_by, widest_figure}
use Rattle.estimators.specs.Swaps.{total_swap}
use Rattle.estimators.specs.MirroredKeys.{keys_mirrored, answerable_mirrored}
use Rattle.estimators.specs.InnerLaws.{Sound, sound_of, rows_few, inner_mirrored}
use Rattle.estimators.specs.SemiBounds.{AtMostRows, semi_le}

-- ---- shares
-- what is no more than the known rows adds up with the rest of them
pub rest_adds_up : (kept : Precision ℕ) (n : ℕ) (o : Option ℕ) → known kept ≡ Some n → AtMostRows n o → AddUp (option_map figure.Inexact o) (option_map (λ m. figure.Inexact (or_zero kept - m)) o) kept
rest_adds_up (Exact v) n None e h = tt
rest_adds_up (Inexact v) n None e h = tt
rest_adds_up Absent n None e h = tt
rest_adds_up (Exact v) n (Some m) e h = let i : v ≡ n = cc in ap Some (omega arith)
rest_adds_up (Inexact v) n (Some m) e h = let i : v ≡ n = cc in ap Some (omega arith)
rest_adds_up Absent n (Some m) e h = cc

pub share_cond : (b : Bool) (x y : Option Figure) (rows : Precision ℕ) → (b ≡ true → AddUp x y rows) → AddUp (cond b x None) (cond b y None) rows
share_cond true x y rows h = h refl
share_cond false x y rows h = tt

few : (p : Precision ℕ) → at_most max_count p ≡ true → AtMost (2 ^ 26) p
few (Exact v) h = leb-true v (2 ^ 26) h
few (Inexact v) h = leb-true v (2 ^ 26) h
few Absent h = tt

module _ {K : Type 0} (relation : K → K → Relation) (size : K → K → Option ℕ) where
  this_few : (s : JoinSide) (q : Question K) → Sound relation q → AtMost (2 ^ 26) (this_input s q).rows
  this_few Left q h = few q.left.rows (rows_few relation q.left h.left)
  this_few Right q h = few q.right.rows (rows_few relation q.right h.right)

  other_few : (s : JoinSide) (q : Question K) → Sound relation q → AtMost (2 ^ 26) (other_input s q).rows
  other_few Left q h = few q.right.rows (rows_few relation q.right h.right)
  other_few Right q h = few q.left.rows (rows_few relation q.left h.left)

  -- by what is known of the kept rows
  shares_by : (s : JoinSide) (q : Question K) (o : Option ℕ) → known (this_input s q).rows ≡ o → Sound relation q → AddUp (semi_figure relation size q s) (anti_figure relation size q s) (this_input s q).rows
  shares_by s q None e h =
      let z : semi_rows relation size s q ≡ None = ap (λ o. semi_of relation size q.null_rule o (this_input s q).rows (other_input s q).rows (keys_from s q)) e in
      subst (λ (o : Option ℕ). AddUp (option_map figure.Inexact o) (option_map (λ m. figure.Inexact (or_zero (this_input s q).rows - m)) o) (this_input s q).rows) (sym z) tt
  shares_by s q (Some n) e h =
      let z : semi_rows relation size s q ≡ semi_of relation size q.null_rule (Some n) (this_input s q).rows (other_input s q).rows (keys_from s q) = ap (λ o. semi_of relation size q.null_rule o (this_input s q).rows (other_input s q).rows (keys_from s q)) e in
      subst (λ (o : Option ℕ). AddUp (option_map figure.Inexact o) (option_map (λ m. figure.Inexact (or_zero (this_input s q).rows - m)) o) (this_input s q).rows) (sym z)
      (rest_adds_up (this_input s q).rows n _ e (semi_le relation size q.null_rule n (this_input s q).rows (other_input s q).rows (keys_from s q) (this_few s q h) (other_few s q h) e))

  pub widest_shares : Shares (widest_figure relation size)
  widest_shares = record {
    left = λ q. share_cond (answerable relation q) (semi_figure relation size q Left) (anti_figure relation size q Left) q.left.rows (λ h. shares_by Left q (known q.left.rows) refl (sound_of relation q h));
    right = λ q. share_cond (answerable relation q) (semi_figure relation size q Right) (anti_figure relation size q Right) q.right.rows (λ h. shares_by Right q (known q.right.rows) refl (sound_of relation q h));
  }

-- ---- mirrors
pub same_cond : (b c : Bool) (x y : Option Figure) → b ≡ c → (c ≡ true → x ≡ y) → cond b x None ≡ cond c y None
same_cond b true x y e h = ap (λ t. cond t x None) e ∙ h refl
same_cond b false x y e h = ap (λ t. cond t x None) e

module _ {K : Type 0} {relation : K → K → Relation} {size : K → K → Option ℕ} (laws : Lawful relation size) where
  semi_mirrored : (s : JoinSide) (q : Question K) → semi_rows relation size s (mirrored q) ≡ semi_rows relation size (opposite s) q
  semi_mirrored Left q = ap (semi_of relation size q.null_rule (known q.right.rows) q.right.rows q.left.rows) (keys_mirrored Left q)
  semi_mirrored Right q = ap (semi_of relation size q.null_rule (known q.left.rows) q.left.rows q.right.rows) (keys_mirrored Right q)

  by_type : (t : JoinType) (q : Question K) → Sound relation q → widest_by relation size (mirrored q) (mirror t) ≡ widest_by relation size q t
  by_type join.Inner q s = ap figure_of (inner_mirrored laws q s)
  by_type join.Full q s =
      let e = inner_mirrored laws q s in
      (λ i. figure_of (both ◌-◌ (total (both max (e i) q.right.rows) (both max (e i) q.left.rows)) (e i))) ∙
      ap (λ p. figure_of (both ◌-◌ p (inner_rows relation size q))) (total_swap (both max (inner_rows relation size q) q.right.rows) (both max (inner_rows relation size q) q.left.rows))
  by_type join.Left q s = ap (λ e. figure_of (both max e q.left.rows)) (inner_mirrored laws q s)
  by_type join.Right q s = ap (λ e. figure_of (both max e q.right.rows)) (inner_mirrored laws q s)
  by_type join.LeftSemi q s = ap (option_map figure.Inexact) (semi_mirrored Right q)
  by_type join.RightSemi q s = ap (option_map figure.Inexact) (semi_mirrored Left q)
  by_type join.LeftAnti q s = ap (option_map (λ m. figure.Inexact (or_zero q.left.rows - m))) (semi_mirrored Right q)
  by_type join.RightAnti q s = ap (option_map (λ m. figure.Inexact (or_zero q.right.rows - m))) (semi_mirrored Left q)
  by_type join.LeftMark q s = refl
  by_type join.RightMark q s = refl

  pub widest_mirrors : Mirrors (widest_figure relation size)
  widest_mirrors q =
      same_cond (answerable relation (mirrored q)) (answerable relation q) (widest_by relation size (mirrored q) (mirror q.join_type)) (widest_by relation size q q.join_type) (answerable_mirrored relation q)
      (λ h. by_type q.join_type q (sound_of relation q h))
