-- Texts of eight bytes: their bytes, and their order by bytes. Assumes nothing.
use Rattle.std.specs.Prelude.{ℕ, ◌/◌, ◌%◌, ◌^◌, cond, List, [], ◌∷◌, nat_lt}
use Rattle.keys.specs.declared.Relation.{Relation}
use Rattle.keys.specs.declared.Relation.TheVariants.{Before, Equal, After}
use Rattle.keys.specs.declared.texts.ShortText.{ShortText}

-- A word's eight bytes, first byte first. A word is below 2 ^ 64, so that
-- nothing is above its first byte.
abbrev pub word_bytes : ℕ → List ℕ
word_bytes w =
    (w / 2 ^ 56) ∷ (w / 2 ^ 48 % 256) ∷ (w / 2 ^ 40 % 256) ∷ (w / 2 ^ 32 % 256) ∷
    (w / 2 ^ 24 % 256) ∷ (w / 2 ^ 16 % 256) ∷ (w / 2 ^ 8 % 256) ∷ (w % 256) ∷ []

abbrev pub text_bytes : ShortText → List ℕ
text_bytes t = word_bytes t.word

-- the first byte that differs decides
abbrev pub byte_relation : List ℕ → List ℕ → Relation
byte_relation [] [] = Equal
byte_relation [] (y ∷ ys) = Before
byte_relation (x ∷ xs) [] = After
byte_relation (x ∷ xs) (y ∷ ys) = cond (nat_lt x y) Before (cond (nat_lt y x) After (byte_relation xs ys))

abbrev pub text_relation : ShortText → ShortText → Relation
text_relation s t = byte_relation (text_bytes s) (text_bytes t)
