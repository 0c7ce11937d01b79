-- What every key kind keeps. Assumes nothing.
use Rattle.std.specs.Prelude.{◌≡◌, ℕ, ◌^◌, ◌<◌, Some, Option}
use Rattle.keys.specs.declared.Relation.{Relation}
use Rattle.keys.specs.declared.Relation.TheVariants.{Before, Equal}
use Rattle.keys.specs.Relations.{turned, Related, AtOrBefore}

-- The numbers below n and the values of low..=high, matched one to one: each
-- number has a value of the range, no value has two numbers, each value has one.
pub record Counts {K : Type 0} (relation : K → K → Relation) (low high : K) (n : ℕ) : Type 0 where
  pub nth : (i : ℕ) → i < n → K
  pub from_low : (i : ℕ) (h : i < n) → AtOrBefore (relation low (nth i h))
  pub to_high : (i : ℕ) (h : i < n) → AtOrBefore (relation (nth i h) high)
  pub once : (i j : ℕ) (h : i < n) (k : j < n) → nth i h ≡ nth j k → i ≡ j
  pub every : (x : K) → AtOrBefore (relation low x) → AtOrBefore (relation x high) → (i : ℕ) × ((h : i < n) × (nth i h ≡ x))

pub record Lawful {K : Type 0} (relation : K → K → Relation) (size : K → K → Option ℕ) : Type 0 where
  -- only a value and itself are equal
  pub same : (x : K) → relation x x ≡ Equal
  pub equal : (x y : K) → relation x y ≡ Equal → x ≡ y
  -- comparing the other way round answers the other way round
  pub turns : (x y : K) → relation y x ≡ turned (relation x y)
  -- with the laws above: being related parts the values into families, and
  -- inside a family the order is total
  pub families : (x y z : K) → Related (relation x y) → Related (relation y z) → Related (relation x z)
  pub before : (x y z : K) → relation x y ≡ Before → relation y z ≡ Before → relation x z ≡ Before
  -- a size is given only where high is at or after low, fits 64 bits, and is
  -- the number of values in the range
  pub sized : (low high : K) (n : ℕ) → size low high ≡ Some n → AtOrBefore (relation low high)
  pub fits : (low high : K) (n : ℕ) → size low high ≡ Some n → n < 2 ^ 64
  pub counts : (low high : K) (n : ℕ) → size low high ≡ Some n → Counts relation low high n
