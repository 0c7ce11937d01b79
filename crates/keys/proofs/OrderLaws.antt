-- What follows from the laws of an order. Assumes nothing.
use Rattle.std.proofs.Common.{◌≡◌, ℕ, Option, sym, refl, ap, ◌∙◌}
use Rattle.keys.specs.declared.Relation.{Relation}
use Rattle.keys.specs.declared.Relation.TheVariants.{Before, Equal, After, Unrelated}
use Rattle.keys.specs.Relations.{AtOrBefore}
use Rattle.keys.specs.Laws.{Lawful}

module _ {K : Type 0} {relation : K → K → Relation} {size : K → K → Option ℕ} (laws : Lawful relation size) where
  before_next : (r : Relation) (x y z : K) → relation x y ≡ Before → relation y z ≡ r → AtOrBefore r → relation x z ≡ Before
  before_next Before x y z h k a = laws.before x y z h k
  before_next Equal x y z h k a = ap (relation x) (sym (laws.equal y z k)) ∙ h
  before_next After x y z h k a = absurd a
  before_next Unrelated x y z h k a = absurd a

  -- before something that is at or before a third
  pub before_at : (x y z : K) → relation x y ≡ Before → AtOrBefore (relation y z) → relation x z ≡ Before
  before_at x y z h a = before_next (relation y z) x y z h refl a

  -- no value is before itself
  pub not_before_itself : (x : K) → relation x x ≡ Before → ⊥
  not_before_itself x h = let s = laws.same x in cc
