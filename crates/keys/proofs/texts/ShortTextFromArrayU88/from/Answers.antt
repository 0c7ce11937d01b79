use Rattle.std.proofs.Common.{◌≡◌, ◌/◌, ◌%◌, ◌^◌, arith, rules}
use Rattle.std.proofs.lemmas.Nat.{be_bytes_8}
use Rattle.keys.proofs.texts.ShortTextFromArrayU88.from.Goals as goal

-- nothing is above the first byte
pub returns : goal.returns
returns c =
    let first : c.from_be_bytes.result / 2 ^ 56 % 256 ≡ c.from_be_bytes.result / 2 ^ 56 = omega arith in
    let same = be_bytes_8 c.args.bytes c.from_be_bytes.result (search rules) (search rules) c.from_be_bytes.ensures in
    cc
