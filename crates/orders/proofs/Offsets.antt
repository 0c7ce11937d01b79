-- The columns before a table: those of the tables in front of it. Assumes nothing.
use Rattle.std.proofs.Common.{◌≡◌, ℕ, ◌+◌, ◌*◌, ◌≤◌, Bool, true, false, cond, not, ◌==◌, List, [], ◌∷◌, length, take, refl, arith}
use Rattle.std.proofs.lemmas.Grind.{common_steps}
use Rattle.std.specs.List.{sum_by, prefix_len}
use denote.Enum.Bare.{sameb}
use Rattle.orders.specs.contracts.Table.{the_type}
use Rattle.orders.specs.declared.Table.{Table}
use Rattle.orders.specs.Orders.{number, width, offset}

-- another table than t
abbrev pub other : Table → Table → Bool
other t x = not (sameb the_type x t)

-- the tables in front of t
abbrev pub before : Table → List Table → List Table
before t xs = take (prefix_len (other t) xs) xs

same_number : (x t : Table) → sameb the_type x t ≡ (number x == number t)
same_number x t = grind arith

first : (b c : Bool) (n : ℕ) (x : Table) (xs : List Table) (rest : ℕ) → b ≡ c → sum_by width (take n xs) ≡ rest → sum_by width (take (cond (not b) (1 + n) 0) (x ∷ xs)) ≡ cond c 0 (width x + rest)
first true true n x xs rest same e = refl
first false false n x xs rest same e = grind (arith, common_steps)
first true false n x xs rest same e = cc
first false true n x xs rest same e = cc

pub columns_before : (t : Table) (xs : List Table) → sum_by width (before t xs) ≡ offset xs t
columns_before t [] = refl
columns_before t (x ∷ xs) = first _ _ (prefix_len (other t) xs) x xs _ (same_number x t) (columns_before t xs)

width_few : (t : Table) → width t ≤ 2
width_few t = grind arith

pub offset_few : (t : Table) (xs : List Table) → offset xs t ≤ 2 * length xs
offset_few t [] = omega arith
offset_few t (x ∷ xs) = grind (arith, width_few x, offset_few t xs)
