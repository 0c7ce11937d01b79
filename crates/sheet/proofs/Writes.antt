-- Loops that write a block from its front, one column a turn. Assumes nothing.
use Rattle.std.proofs.Common.{◌≡◌, ℕ, ◌+◌, ◌<◌, List, map, length, get_or, set, sym, ◌∙◌, arith, rules}
use lib.Seq.{paste}
use Rattle.std.proofs.lemmas.List.{places, same_lists, length-map, get_or-map}
use Rattle.std.proofs.lemmas.List.Edits.{paste_more}

module _ {X : Type 0} (d t : List X) where
  -- the next of t, after those before it
  pub write_more : (i : ℕ) (b : List X) (x : X) → b ≡ paste d 0 t i → i < length d → i < length t → x ≡ get_or t i x → set b i x ≡ paste d 0 t (i + 1)
  write_more i b x so_far h k read =
      let z : i ≡ 0 + i = omega arith in
      (λ j. set (so_far j) (z j) (read j)) ∙ paste_more d 0 t i x (omega arith) k

  -- all of t, in a block as long
  pub write_all : (n : ℕ) → n ≡ length t → length d ≡ length t → paste d 0 t n ≡ t
  write_all n m e = same_lists _ _ (search (rules, places)) (λ k x h. grind (arith, places))

-- what f gives for the next of ys
pub write_each : {X Y : Type 0} (f : Y → X) (d : List X) (ys : List Y) (i : ℕ) (b : List X) (y : Y) (x : X) → b ≡ paste d 0 (map f ys) i → length d ≡ length ys → i < length ys → x ≡ f (get_or ys i y) → set b i x ≡ paste d 0 (map f ys) (i + 1)
write_each f d ys i b y x so_far e h is =
    write_more d (map f ys) i b x so_far (omega arith) (omega (arith, length-map ys f)) (is ∙ sym (get_or-map f ys i y x h))
