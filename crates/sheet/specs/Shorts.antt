-- Short lists, as a node keeps them. Assumes nothing.
use Rattle.std.specs.Prelude.{List, length, take, replicate}
use Rattle.std.proofs.Math.Seq.{paste}
use Rattle.questions.specs.declared.types.KeySide.{KeySide}
use Rattle.questions.specs.declared.types.KeySide.TheVariants.{Column}
use Rattle.questions.specs.declared.types.KeyPair.{KeyPair}
use Rattle.sheet.specs.declared.shorts.Short.{Short}

-- the values that a short list has
abbrev pub listed : {T : Type 0} → Short T → List T
listed s = take s.len s.items

-- a list of at most 16 values, kept: the places after them hold a filler
abbrev pub kept_as : {T : Type 0} → T → List T → Short T
kept_as filler xs = record { items = paste (replicate 16 filler) 0 xs (length xs); len = length xs }

abbrev pub no_key : KeySide
no_key = Column 0

abbrev pub no_pair : KeyPair
no_pair = record { left = no_key; right = no_key }
