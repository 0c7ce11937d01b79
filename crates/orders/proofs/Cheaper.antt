-- The cheapest of the costs so far. Assumes nothing.
use Rattle.std.proofs.Common.{◌≡◌, ℕ, ◌+◌, ◌<◌, true, false, List, length, get_or, Some, None, Option, refl, sym, ◌∙◌, cond, Bool, MatchOption, IsTrue, arith, below_more}
use Rattle.std.proofs.lemmas.Bool.{le-ltb}
use Rattle.std.proofs.lemmas.List.{get_or_default}
use Rattle.stats.specs.declared.exactness.Precision.{Precision}
use Rattle.stats.specs.declared.exactness.Precision.TheVariants.{Exact, Absent}
use Rattle.stats.specs.Precisions.{known}
use Rattle.orders.specs.Choice.{cheaper_by, cheaper}

-- none of the first n is cheaper than b, and those before b are dearer
pub record Best (costs : List (Precision ℕ)) (n b : ℕ) : Type 0 where
  pub among : b < n
  pub none_cheaper : (j : ℕ) → j < n → cheaper (get_or costs j Absent) (get_or costs b Absent) ≡ false
  pub first : (j : ℕ) → j < b → cheaper (get_or costs b Absent) (get_or costs j Absent) ≡ true

abbrev pub BestOf : List (Precision ℕ) → ℕ → Option ℕ → Type 0
BestOf costs n (Some b) = Best costs n b
BestOf costs n None = n ≡ 0

itself : (o : Option ℕ) → cheaper_by o o ≡ false
itself (Some a) = le-ltb a a (omega arith)
itself None = refl

-- what is not cheaper than b is not cheaper than what is cheaper than b
below : (x y b : Option ℕ) → cheaper_by x b ≡ false → cheaper_by y b ≡ true → cheaper_by x y ≡ false
below (Some x) (Some y) (Some b) h k = grind arith
below (Some x) (Some y) None h k = cc
below (Some x) None b h k = cc
below None y b h k = refl

-- and what is cheaper than b is cheaper than it
above : (x y b : Option ℕ) → cheaper_by x b ≡ false → cheaper_by y b ≡ true → cheaper_by y x ≡ true
above (Some x) (Some y) (Some b) h k = grind arith
above (Some x) (Some y) None h k = cc
above x None b h k = cc
above None (Some y) b h k = refl

module _ (costs : List (Precision ℕ)) (i : ℕ) where
  abbrev no_cheaper : ℕ → ℕ → Type 0
  no_cheaper b j = cheaper (get_or costs j Absent) (get_or costs b Absent) ≡ false

  -- the first cost of all
  pub best_at_0 : i ≡ 0 → Best costs (i + 1) i
  best_at_0 e = record {
    among = omega arith;
    none_cheaper = below_more (no_cheaper i) i (λ j l. absurd (omega arith)) (itself (known (get_or costs i Absent)));
    first = λ j l. absurd (omega arith);
  }

  module _ (b : ℕ) (old : Best costs i b) where
    -- the new one is cheaper
    pub best_new : cheaper (get_or costs i Absent) (get_or costs b Absent) ≡ true → Best costs (i + 1) i
    best_new h = record {
      among = omega arith;
      none_cheaper = below_more (no_cheaper i) i (λ j l. below (known (get_or costs j Absent)) _ _ (old.none_cheaper j l) h) (itself (known (get_or costs i Absent)));
      first = λ j l. above (known (get_or costs j Absent)) _ _ (old.none_cheaper j l) h;
    }

    -- or it is not
    pub best_stays : cheaper (get_or costs i Absent) (get_or costs b Absent) ≡ false → Best costs (i + 1) b
    best_stays h = record {
      among = let l = old.among in omega arith;
      none_cheaper = below_more (no_cheaper b) i old.none_cheaper h;
      first = old.first;
    }

-- values that were read
pub read_cheaper : (costs : List (Precision ℕ)) (i b : ℕ) (d : Precision ℕ) → i < length costs → b < length costs → cheaper (get_or costs i Absent) (get_or costs b Absent) ≡ cheaper (get_or costs i d) (get_or costs b d)
read_cheaper costs i b d h k = λ j. cheaper (get_or_default costs i Absent d h j) (get_or_default costs b Absent d k j)

-- the new one is the best where there was none, or it is cheaper
pub next_best : (costs : List (Precision ℕ)) (i : ℕ) (best : Option ℕ) (taken : Bool) {Q : ℕ → Type 0} → i < length costs → BestOf costs i best → MatchOption best (IsTrue taken) Q → ((b : ℕ) → Q b → taken ≡ cheaper (get_or costs i (Exact 0)) (get_or costs b (Exact 0))) → BestOf costs (i + 1) (cond taken (Some i) best)
next_best costs i None true l old h says = best_at_0 costs i old
next_best costs i None false l old h says = cc
next_best costs i (Some b) true l old h says = best_new costs i b old (read_cheaper costs i b (Exact 0) l (let k = old.among in omega arith) ∙ sym (says b h))
next_best costs i (Some b) false l old h says = best_stays costs i b old (read_cheaper costs i b (Exact 0) l (let k = old.among in omega arith) ∙ sym (says b h))
