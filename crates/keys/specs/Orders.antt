-- The laws of the two orders that the kinds are made of. Assumes nothing.
use Rattle.std.specs.Prelude.{◌≡◌, ℕ, ◌+◌, ℤ, pos, ◌+ℤ◌, ◌-ℤ◌, ◌≤ℤ◌, Some, None, Option, unsigned_abs}
use Rattle.std.proofs.Common.{ap, sym, ◌∙◌, arith}
use Rattle.std.proofs.lemmas.Bool.Decides.{nat_tests}
use Rattle.std.proofs.lemmas.Int.{ints}
use Rattle.keys.specs.declared.Relation.{Relation}
use Rattle.keys.specs.Relations.{AtOrBefore}
use Rattle.keys.specs.Laws.{Lawful, Counts}
use Rattle.keys.specs.Numbers.{number_relation, number_size}
use Rattle.keys.specs.ByteOrder.{word_relation}

abbrev pub uncounted : {K : Type 0} → K → K → Option ℕ
uncounted low high = None

module _ (low high : ℤ) (n : ℕ) (h : number_size low high ≡ Some n) where
  at_low : low ≤ℤ high
  at_low = grind (arith, ints)

  size_is : n ≡ unsigned_abs (high -ℤ low) + 1
  size_is = grind (arith, ints)

  past_high : high +ℤ pos 1 ≡ low +ℤ pos n
  past_high = let l = at_low in let s = size_is in omega (arith, ints)

up_to : (a b : ℤ) → a ≤ℤ b → AtOrBefore (number_relation a b)
up_to a b h = grind (arith, ints)

up_to_is : (a b : ℤ) → AtOrBefore (number_relation a b) → a ≤ℤ b
up_to_is a b h = grind (arith, ints)

-- the number i of low..=high is low + i
number_counts : (low high : ℤ) (n : ℕ) → number_size low high ≡ Some n → Counts number_relation low high n
number_counts low high n h =
    let u = past_high low high n h in
    record {
      nth = λ i k. low +ℤ pos i;
      from_low = λ i k. up_to low (low +ℤ pos i) (omega (arith, ints));
      to_high = λ i k. up_to (low +ℤ pos i) high (omega (arith, ints));
      once = λ i j k l e. omega (arith, ints);
      every = λ x a b.
          let p = up_to_is low x a in
          let q = up_to_is x high b in
          (unsigned_abs (x -ℤ low), (omega (arith, ints), omega (arith, ints)));
    }

pub numbers : Lawful number_relation number_size
numbers = record {
  same = λ x. grind (arith, ints);
  equal = λ x y h. grind (arith, ints);
  turns = λ x y. grind (arith, ints);
  families = λ x y z h k. grind (arith, ints);
  before = λ x y z h k. grind (arith, ints);
  sized = λ low high n h. grind (arith, ints);
  fits = λ low high n h. grind (arith, ints);
  counts = number_counts;
}

pub words : Lawful word_relation uncounted
words = record {
  same = λ x. grind (arith, nat_tests);
  equal = λ x y h. grind (arith, nat_tests);
  turns = λ x y. grind (arith, nat_tests);
  families = λ x y z h k. grind (arith, nat_tests);
  before = λ x y z h k. grind (arith, nat_tests);
  sized = λ low high n h. cc;
  fits = λ low high n h. cc;
  counts = λ low high n h. cc;
}

-- a kind whose values hold those of another, one to one, has its laws
module _ {K J : Type 0} (out : K → J) (into : J → K) (back : (x : K) → into (out x) ≡ x) (forth : (j : J) → out (into j) ≡ j) {R : J → J → Relation} {S : J → J → Option ℕ} (laws : Lawful R S) where
  held_counts : (low high : K) (n : ℕ) → S (out low) (out high) ≡ Some n → Counts (λ x y. R (out x) (out y)) low high n
  held_counts low high n h =
      let k = laws.counts (out low) (out high) n h in
      record {
        nth = λ i l. into (k.nth i l);
        from_low = λ i l. rw forth (k.from_low i l);
        to_high = λ i l. rw forth (k.to_high i l);
        once = λ i j l m e. k.once i j l m (sym (forth (k.nth i l)) ∙ ap out e ∙ forth (k.nth j m));
        every = λ x p q. let f = k.every (out x) p q in (f.0, (f.1.0, ap into f.1.1 ∙ back x));
      }

  pub held : Lawful (λ x y. R (out x) (out y)) (λ x y. S (out x) (out y))
  held = record {
    same = λ x. laws.same (out x);
    equal = λ x y h. sym (back x) ∙ ap into (laws.equal (out x) (out y) h) ∙ back y;
    turns = λ x y. laws.turns (out x) (out y);
    families = λ x y z. laws.families (out x) (out y) (out z);
    before = λ x y z. laws.before (out x) (out y) (out z);
    sized = λ low high. laws.sized (out low) (out high);
    fits = λ low high. laws.fits (out low) (out high);
    counts = held_counts;
  }
