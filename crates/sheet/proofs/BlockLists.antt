-- A new block after the others leaves them as they were. Assumes nothing.
use Rattle.std.proofs.Common.{◌≡◌, ℕ, ◌+◌, ◌≤◌, List, [], ◌∷◌, map, length, take, drop, replicate, arith, rules}
use lib.Seq.{paste}
use Rattle.std.specs.List.{AllByRecursion}
use Rattle.std.proofs.lemmas.List.{places, same_lists}
use Rattle.sheet.specs.Shorts.{listed, kept_as}

-- a block below the new one stays
pub block_stays : {X : Type 0} (d t : List X) (at n place width : ℕ) → place + width ≤ at → at ≤ length d → take width (drop place (paste d at t n)) ≡ take width (drop place d)
block_stays d t at n place width h l = same_lists _ _ (search (rules, places)) (λ k e m. grind (arith, places))

-- the new one is what was put
pub block_new : {X : Type 0} (d t : List X) (at n : ℕ) → length t ≡ n → at ≤ length d → take n (drop at (paste d at t n)) ≡ t
block_new d t at n h l = same_lists _ _ (search (rules, places)) (λ k e m. grind (arith, places))

-- a short list has the values that it was made of
pub listed_kept : {T : Type 0} (filler : T) (xs : List T) → length xs ≤ 16 → listed (kept_as filler xs) ≡ xs
listed_kept filler xs h = block_new (replicate 16 filler) xs 0 (length xs) (omega arith) (omega arith)

-- each value of a map has what the map gives
pub all_made : {X Y : Type 0} (P : Y → Type 0) (f : X → Y) → ((x : X) → P (f x)) → (xs : List X) → AllByRecursion P (map f xs)
all_made P f h [] = tt
all_made P f h (x ∷ xs) = (h x, all_made P f h xs)
