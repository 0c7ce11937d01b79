-- The rows of an inner join do not mind which side is which. Assumes nothing.
use Rattle.std.specs.Prelude.{◌≡◌, ℕ, zero, suc, ◌*◌, ◌/◌, max, Bool, true, ◌&&◌, List, [], ◌∷◌, map, length, get_or, fold, Option, nat_le, slice_index_or, refl}
use Rattle.std.proofs.Common.{sym, ap, ◌∙◌, mul_comm}
use Rattle.std.proofs.Math.Nat.{max_comm}
use Rattle.std.proofs.lemmas.Bool.{and_parts}
use Rattle.std.proofs.lemmas.List.Folds.{fold-map}
use Rattle.keys.specs.declared.Relation.{Relation}
use Rattle.keys.specs.Laws.{Lawful}
use Rattle.stats.specs.declared.exactness.Precision.{Precision}
use Rattle.stats.specs.declared.exactness.Precision.TheVariants.{Absent}
use Rattle.stats.specs.Precisions.{inexact, both, at_most}
use Rattle.stats.specs.Limits.{max_count}
use Rattle.stats.specs.Columns.{unknown_column, lawful, within_limits, sound}
use Rattle.stats.specs.Distincts.{max_distinct}
use Rattle.std.specs.List.{list_all}
use Rattle.questions.specs.declared.types.JoinSide.TheVariants.{Left, Right}
use Rattle.questions.specs.declared.types.KeySide.{KeySide}
use Rattle.questions.specs.declared.types.KeySide.TheVariants.{Column, Expression}
use Rattle.questions.specs.Questions.{Input, Question, mirrored}
use Rattle.estimators.specs.declared.pairs.KeyColumns.{KeyColumns}
use Rattle.estimators.specs.KeyColumns.{turned, columns_at, columns_from, keys_from}
use Rattle.questions.specs.Types.{max_pairs}
use Rattle.questions.specs.Types.{pair_inside}
use Rattle.estimators.specs.Answerable.{input_sound, answerable}
use Rattle.estimators.specs.Zeros.{zero_of, or_else}
use Rattle.estimators.specs.Disjoint.{disjoint}
use Rattle.estimators.specs.Widest.{max_present, pair_width, widest, nonzero, matching, inner_rows}
use Rattle.estimators.specs.Swaps.{both_swap, either_swap}
use Rattle.estimators.specs.MirroredKeys.{keys_mirrored}
use Rattle.estimators.specs.DisjointLaws.{LawfulPair, disjoint_swap}

-- what every element passes, one read at any place passes
every_at : {A : Type 0} (test : A → Bool) (xs : List A) (i : ℕ) (d : A) → list_all test xs ≡ true → test d ≡ true → test (slice_index_or xs i d) ≡ true
every_at test [] i d h e = e
every_at test (x ∷ xs) zero d h e = (and_parts (test x) (list_all test xs) h).0
every_at test (x ∷ xs) (suc i) d h e = every_at test xs i d (and_parts (test x) (list_all test xs) h).1 e

module _ {K : Type 0} (relation : K → K → Relation) where
  -- ---- what an answerable question has
  pub record Sound (q : Question K) : Type 0 where
    pub left : input_sound relation q.left ≡ true
    pub right : input_sound relation q.right ≡ true

  pub sound_of : (q : Question K) → answerable relation q ≡ true → Sound q
  sound_of q h =
      let few = nat_le (length q.pairs) max_pairs in
      let inside = list_all (pair_inside (length q.left.columns) (length q.right.columns)) q.pairs in
      let l = input_sound relation q.left in
      let r = input_sound relation q.right in
      let c = and_parts l r (and_parts inside (l && r) (and_parts few (inside && (l && r)) h).1).1 in
      record { left = c.0; right = c.1 }

  column_lawful : (i : Input K) (n : ℕ) → input_sound relation i ≡ true → lawful relation (slice_index_or i.columns n unknown_column) ≡ true
  column_lawful i n h =
      let c = get_or i.columns n unknown_column in
      let all = (and_parts (at_most max_count i.rows) (list_all (sound relation) i.columns) h).1 in
      (and_parts (lawful relation c) (within_limits c) (every_at (sound relation) i.columns n unknown_column all refl)).0

  pub rows_few : (i : Input K) → input_sound relation i ≡ true → at_most max_count i.rows ≡ true
  rows_few i h = (and_parts (at_most max_count i.rows) (list_all (sound relation) i.columns) h).0

module _ {K : Type 0} {relation : K → K → Relation} {size : K → K → Option ℕ} (laws : Lawful relation size) where
  pair_lawful : (q : Question K) → Sound relation q → (a b : KeySide) → LawfulPair laws (columns_at q.left.columns q.right.columns a b)
  pair_lawful q s (Column i) (Column j) = (column_lawful relation q.left i s.left, column_lawful relation q.right j s.right)
  pair_lawful q s (Column i) Expression = (refl, refl)
  pair_lawful q s Expression (Column j) = (refl, refl)
  pair_lawful q s Expression Expression = (refl, refl)

  disjoint_sides : (q : Question K) → Sound relation q → disjoint relation q.null_rule (keys_from Right q) ≡ disjoint relation q.null_rule (keys_from Left q)
  disjoint_sides q s = disjoint_swap laws q.null_rule (columns_from Left q) (λ p. pair_lawful q s p.left p.right) q.pairs

  width_swap : (l r : Precision ℕ) (k : KeyColumns K) → pair_width size r l (turned k) ≡ pair_width size l r k
  width_swap l r k = both_swap max max_comm (max_distinct size r k.other) (max_distinct size l k.this)

  widest_from : {A : Type 0} (l r w : Precision ℕ) (f : A → KeyColumns K) (xs : List A) → fold (λ w k. max_present w (pair_width size r l k)) w (map (λ x. turned (f x)) xs) ≡ fold (λ w k. max_present w (pair_width size l r k)) w (map f xs)
  widest_from l r w f xs =
      fold-map (λ w k. max_present w (pair_width size r l k)) (λ x. turned (f x)) w xs ∙
      (λ i. fold (λ w x. max_present w (width_swap l r (f x) i)) w xs) ∙
      sym (fold-map (λ w k. max_present w (pair_width size l r k)) f w xs)

  matching_swap : (l r w : Precision ℕ) → matching r l w ≡ matching l r w
  matching_swap l r w = ap (λ p. inexact (both ◌/◌ p (nonzero w))) (both_swap ◌*◌ mul_comm r l)

  pub inner_mirrored : (q : Question K) → Sound relation q → inner_rows relation size (mirrored q) ≡ inner_rows relation size q
  inner_mirrored q s =
      let l = q.left.rows in
      let r = q.right.rows in
      let apart = ap (disjoint relation q.null_rule) (keys_mirrored Left q) ∙ disjoint_sides q s in
      let width = ap (widest size r l) (keys_mirrored Left q) ∙ widest_from l r Absent (columns_from Left q) q.pairs in
      let rows = matching_swap l r (widest size r l (keys_from Left (mirrored q))) ∙ ap (matching l r) width in
      λ i. or_else (apart i) (or_else (either_swap (zero_of r) (zero_of l) i) (rows i))
