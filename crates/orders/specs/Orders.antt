-- The orders that the keys of the report allow, and the pairs that join them. Assumes
-- nothing.
use Rattle.std.specs.Prelude.{ℕ, ◌+◌, Bool, true, false, cond, ◌&&◌, ◌||◌, List, [], ◌∷◌, ◌++◌, map, ◌==◌, nat_lt, codes}
use Rattle.questions.specs.declared.types.KeySide.TheVariants.{Column}
use Rattle.questions.specs.declared.types.KeyPair.{KeyPair}
use Rattle.orders.specs.declared.Table.{Table}
use Rattle.orders.specs.declared.Table.TheVariants.{Payments, Members, Flats, Lifts}
use Rattle.orders.specs.declared.Order.{Order}

-- the number of a table's node
abbrev pub number : Table → ℕ
number Payments = 1
number Members = 2
number Flats = 3
number Lifts = 4

abbrev pub name : Table → List ℕ
name Payments = codes "payments"
name Members = codes "members"
name Flats = codes "flats"
name Lifts = codes "lifts"

-- payer and amount, number and flat, number and lift, number
abbrev pub width : Table → ℕ
width Payments = 2
width Members = 2
width Flats = 2
width Lifts = 1

-- the column that has the next table's key; a table's own key is column 0
abbrev pub to_next : Table → ℕ
to_next Payments = 0
to_next Members = 1
to_next Flats = 1
to_next Lifts = 1

abbrev pub tables : Order → List Table
tables o = o.tables

-- ---- which orders the keys allow
-- each table shares a key with the next
abbrev pub share_key : Table → Table → Bool
share_key a b = number a + 1 == number b || number b + 1 == number a

abbrev pub shares_with : List Table → Table → Bool
shares_with [] t = false
shares_with (x ∷ xs) t = share_key x t || shares_with xs t

-- every table shares a key with one before it
abbrev pub linked : List Table → List Table → Bool
linked before [] = true
linked before (t ∷ ts) = shares_with before t && linked (t ∷ before) ts

abbrev pub allowed : List Table → Bool
allowed [] = true
allowed (t ∷ ts) = linked (t ∷ []) ts

abbrev pub by_keys : List (List Table) → List (List Table)
by_keys [] = []
by_keys (o ∷ os) = cond (allowed o) (o ∷ by_keys os) (by_keys os)

-- x at every place of a list
abbrev pub inserted_everywhere : Table → List Table → List (List Table)
inserted_everywhere x [] = (x ∷ []) ∷ []
inserted_everywhere x (y ∷ ys) = (x ∷ y ∷ ys) ∷ map (λ zs. y ∷ zs) (inserted_everywhere x ys)

abbrev pub everywhere : Table → List (List Table) → List (List Table)
everywhere x [] = []
everywhere x (os ∷ oss) = inserted_everywhere x os ++ everywhere x oss

abbrev pub permutations : List Table → List (List Table)
permutations [] = [] ∷ []
permutations (x ∷ xs) = everywhere x (permutations xs)

-- ---- the pair by which a table is joined to those before it
-- the columns before those of a table
abbrev pub offset : List Table → Table → ℕ
offset [] t = 0
offset (x ∷ xs) t = cond (number x == number t) 0 (width x + offset xs t)

abbrev pub pair_with_next : List Table → Table → Table → KeyPair
pair_with_next order t next = record { left = Column (offset order next); right = Column (to_next t) }

abbrev pub pair_with_last : List Table → Table → KeyPair
pair_with_last order last = record { left = Column (offset order last + to_next last); right = Column 0 }

-- with the next table, where that comes before it, or else with the one before
abbrev pub pair_to : List Table → Table → KeyPair
pair_to order Payments = pair_with_next order Payments Members
pair_to order Members = cond (nat_lt (offset order Flats) (offset order Members)) (pair_with_next order Members Flats) (pair_with_last order Payments)
pair_to order Flats = cond (nat_lt (offset order Lifts) (offset order Flats)) (pair_with_next order Flats Lifts) (pair_with_last order Members)
pair_to order Lifts = pair_with_last order Flats
