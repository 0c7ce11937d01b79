-- The block of a new node. Assumes nothing.
use Rattle.std.proofs.Common.{◌≡◌, ℕ, ◌+◌, ◌≤◌, List, ◌++◌, length, take, drop, ap, arith, rules}
use lib.Seq.{paste}
use Rattle.std.proofs.lemmas.List.{places, same_lists, length-take, length-drop}

-- it is w columns long
pub block_wide : {X : Type 0} (d block : List X) (u w : ℕ) → block ≡ take w (drop u d) → u + w ≤ length d → length block ≡ w
block_wide d block u w shows space = let l = ap length shows in omega (arith, length-take w (drop u d), length-drop u d)

-- and is written after the used part
pub written : {X : Type 0} (d used free t : List X) (u w : ℕ) → d ≡ used ++ free → length used ≡ u → length t ≡ w → u + w ≤ length d → used ++ (t ++ drop w free) ≡ paste d u t w
written d used free t u w value front wide space =
    let l = ap length value in
    rw value (same_lists _ _ (search (rules, places)) (λ k x m. grind (arith, places)))
