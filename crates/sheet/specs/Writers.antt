-- What writes the block of a new node: it is handed the block, and may read the used
-- part. Assumes nothing.
use Rattle.std.specs.Prelude.{◌≡◌, ℕ, List, take, drop}
use denote.Param.Members.{Shared}
use denote.Ref.{Bor, MutBor}

module _ {X F R : Type 0} (g : Shared F (MutBor (List X) × (Bor (List X) × Unit {0})) (R × (MutBor (List X) × Unit {0}))) (f : F) (used width : ℕ) (columns : List X) where
  -- f may be called with the block of this width after the used part
  abbrev pub MayWrite : Type 0
  MayWrite = (block : MutBor (List X)) (front : Bor (List X)) → block.now ≡ take width (drop used columns) → front.now ≡ take used columns → g.pre f (block, (front, tt))

  -- and leaves these columns there
  abbrev pub Leaves : List X → Type 0
  Leaves m = (block left : MutBor (List X)) (front : Bor (List X)) (r : R) → block.now ≡ take width (drop used columns) → front.now ≡ take used columns → g.post f (block, (front, tt)) (r, (left, tt)) → left.now ≡ m
