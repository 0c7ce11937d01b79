-- Disjointness does not mind which side is which, where columns are lawful: then
-- only one of two ranges can lie after the other. Assumes nothing.
use Rattle.std.specs.Prelude.{◌≡◌, ℕ, Bool, true, false, cond, List, [], ◌∷◌, map, is_some, Some, Option, ◌≢◌, refl}
use Rattle.std.proofs.Common.{sym, ap, ◌∙◌}
use Rattle.std.proofs.lemmas.Bool.{both_ways}
use Rattle.keys.specs.declared.Relation.{Relation}
use Rattle.keys.specs.declared.Relation.TheVariants.{Before, Equal, After, Unrelated}
use Rattle.keys.specs.Relations.{turned, AtOrBefore}
use Rattle.keys.specs.Laws.{Lawful}
use Rattle.keys.proofs.OrderLaws.{before_at, not_before_itself}
use Rattle.stats.specs.declared.exactness.Precision.{Precision}
use Rattle.stats.specs.declared.exactness.Precision.TheVariants.{Exact, Inexact, Absent}
use Rattle.stats.specs.declared.columns.ColumnStatistics.{ColumnStatistics}
use Rattle.stats.specs.Precisions.{known, both}
use Rattle.stats.specs.Columns.{at_or_after, if_present, lawful}
use Rattle.questions.specs.declared.types.NullEquality.{NullEquality}
use Rattle.questions.specs.declared.types.NullEquality.TheVariants.{NullEqualsNothing, NullEqualsNull}
use Rattle.estimators.specs.declared.pairs.KeyColumns.{KeyColumns}
use Rattle.estimators.specs.KeyColumns.{turned as seen_turned}
use Rattle.estimators.specs.Zeros.{zero_of, or_else}
use Rattle.estimators.specs.Disjoint.{is_after, when_after, low_past_high, no_null_match, disjoint_pair, disjoint}
use Rattle.estimators.specs.Swaps.{either_swap, or_else_swap}

-- both values of an operation are known where its result is
pub record Parts {S T U : Type 0} (op : S → T → U) (p : Precision S) (q : Precision T) (u : U) : Type 0 where
  pub first : S
  pub second : T
  pub first_is : known p ≡ Some first
  pub second_is : known q ≡ Some second
  pub result : op first second ≡ u

parts : {S T U : Type 0} (op : S → T → U) (p : Precision S) (q : Precision T) (u : U) → known (both op p q) ≡ Some u → Parts op p q u
parts op (Exact a) (Exact b) u e = record { first = a; second = b; first_is = refl; second_is = refl; result = cc }
parts op (Exact a) (Inexact b) u e = record { first = a; second = b; first_is = refl; second_is = refl; result = cc }
parts op (Exact a) Absent u e = cc
parts op (Inexact a) (Exact b) u e = record { first = a; second = b; first_is = refl; second_is = refl; result = cc }
parts op (Inexact a) (Inexact b) u e = record { first = a; second = b; first_is = refl; second_is = refl; result = cc }
parts op (Inexact a) Absent u e = cc
parts op Absent q u e = cc

after_is : (r : Relation) → is_after r ≡ true → r ≡ After
after_is Before h = absurd (both_ways false refl h)
after_is Equal h = absurd (both_ways false refl h)
after_is After h = refl
after_is Unrelated h = absurd (both_ways false refl h)

by_cond : (b : Bool) (p : Precision ℕ) → is_some (known (cond b p Absent)) ≡ true → b ≡ true
by_cond true p h = refl
by_cond false p h = absurd (both_ways false refl h)

after_known : (p : Precision Relation) → is_some (known (when_after p)) ≡ true → known p ≡ Some After
after_known (Exact r) h = ap Some (after_is r (by_cond (is_after r) (Exact 0) h))
after_known (Inexact r) h = ap Some (after_is r (by_cond (is_after r) (Inexact 0) h))
after_known Absent h = absurd (both_ways false refl h)

-- a high that is at or after a low
at_or_before : (r : Relation) → at_or_after r ≡ true → AtOrBefore (turned r)
at_or_before Before h = absurd (both_ways false refl h)
at_or_before Equal h = tt
at_or_before After h = tt
at_or_before Unrelated h = absurd (both_ways false refl h)

present_passes : (p : Precision Relation) (r : Relation) → if_present at_or_after p ≡ true → known p ≡ Some r → at_or_after r ≡ true
present_passes (Exact s) r h e = let i : s ≡ r = cc in rw (sym i) h
present_passes (Inexact s) r h e = let i : s ≡ r = cc in rw (sym i) h
present_passes Absent r h e = cc

both_known : {S T U : Type 0} (op : S → T → U) (p : Precision S) (q : Precision T) (a : S) (b : T) → known p ≡ Some a → known q ≡ Some b → known (both op p q) ≡ Some (op a b)
both_known op (Exact x) (Exact y) a b d e = let i : x ≡ a = cc in let j : y ≡ b = cc in λ k. Some (op (i k) (j k))
both_known op (Exact x) (Inexact y) a b d e = let i : x ≡ a = cc in let j : y ≡ b = cc in λ k. Some (op (i k) (j k))
both_known op (Exact x) Absent a b d e = cc
both_known op (Inexact x) (Exact y) a b d e = let i : x ≡ a = cc in let j : y ≡ b = cc in λ k. Some (op (i k) (j k))
both_known op (Inexact x) (Inexact y) a b d e = let i : x ≡ a = cc in let j : y ≡ b = cc in λ k. Some (op (i k) (j k))
both_known op (Inexact x) Absent a b d e = cc
both_known op Absent q a b d e = cc

module _ {K : Type 0} {relation : K → K → Relation} {size : K → K → Option ℕ} (laws : Lawful relation size) where
  -- the ends of a lawful column, in order
  ends_in_order : (c : ColumnStatistics K) (low high : K) → lawful relation c ≡ true → known c.min_value ≡ Some low → known c.max_value ≡ Some high → AtOrBefore (relation low high)
  ends_in_order c low high l d e =
      rw (laws.turns high low)
      (at_or_before (relation high low) (present_passes (both relation c.max_value c.min_value) (relation high low) l (both_known relation c.max_value c.min_value high low e d)))

  turned_back : (x y : K) → relation x y ≡ After → relation y x ≡ Before
  turned_back x y h = laws.turns x y ∙ ap turned h

  -- two lows cannot each be after the other column's high
  one_way : (c d : ColumnStatistics K) → lawful relation c ≡ true → lawful relation d ≡ true → is_some (known (low_past_high relation c d)) ≡ true → is_some (known (low_past_high relation d c)) ≢ true
  one_way c d lc ld h k =
      let p = parts relation c.min_value d.max_value After (after_known (both relation c.min_value d.max_value) h) in
      let q = parts relation d.min_value c.max_value After (after_known (both relation d.min_value c.max_value) k) in
      let a = before_at laws p.second p.first q.second (turned_back p.first p.second p.result) (ends_in_order c p.first q.second lc p.first_is q.second_is) in
      let b = laws.before p.second q.second q.first a (turned_back q.first q.second q.result) in
      not_before_itself laws p.second (before_at laws p.second q.first p.second b (ends_in_order d q.first p.second ld q.first_is p.second_is))

  nulls_swap : (rule : NullEquality) (k : KeyColumns K) → no_null_match rule (seen_turned k) ≡ no_null_match rule k
  nulls_swap NullEqualsNothing k = refl
  nulls_swap NullEqualsNull k = either_swap (zero_of k.other.null_count) (zero_of k.this.null_count)

  -- the columns of a pair are lawful
  abbrev pub LawfulPair : KeyColumns K → Type 0
  LawfulPair k = (lawful relation k.this ≡ true) × (lawful relation k.other ≡ true)

  pub pair_swap : (rule : NullEquality) (k : KeyColumns K) → LawfulPair k → disjoint_pair relation rule (seen_turned k) ≡ disjoint_pair relation rule k
  pair_swap rule k l =
      λ i. both (λ a b. 0) (or_else_swap (low_past_high relation k.other k.this) (low_past_high relation k.this k.other) (one_way k.other k.this l.1 l.0) i) (nulls_swap rule k i)

  pub disjoint_swap : {A : Type 0} (rule : NullEquality) (f : A → KeyColumns K) → ((x : A) → LawfulPair (f x)) → (xs : List A) → disjoint relation rule (map (λ x. seen_turned (f x)) xs) ≡ disjoint relation rule (map f xs)
  disjoint_swap rule f l [] = refl
  disjoint_swap rule f l (x ∷ xs) = λ i. or_else (pair_swap rule (f x) (l x) i) (disjoint_swap rule f l xs i)
