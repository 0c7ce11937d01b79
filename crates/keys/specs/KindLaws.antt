-- Both kinds keep the laws. Assumes nothing.
use Rattle.std.specs.Prelude.{◌≡◌, ℕ, ◌^◌, ◌<◌, ℤ, Some, refl}
use Rattle.std.proofs.Common.{ap, subst, sym}
use Rattle.keys.specs.declared.Relation.{Relation}
use Rattle.keys.specs.declared.Relation.TheVariants.{Before, Equal}
use Rattle.keys.specs.declared.texts.ShortText.{ShortText}
use Rattle.keys.specs.declared.kinds.Whole.{Whole}
use Rattle.keys.specs.declared.kinds.Mixed.{Mixed}
use Rattle.keys.specs.declared.kinds.Mixed.TheVariants.{Number, Text}
use Rattle.keys.specs.Relations.{turned, Related, AtOrBefore}
use Rattle.keys.specs.Laws.{Lawful, Counts}
use Rattle.keys.specs.Texts.{text_relation}
use Rattle.keys.specs.Kinds.{whole_relation, whole_size, mixed_relation, mixed_size}
use Rattle.keys.specs.ByteOrder.{word_relation, as_words}
use Rattle.keys.specs.Orders.{numbers, words, held, uncounted}

pub whole : Lawful whole_relation whole_size
whole = held (λ (x : Whole). x.0) (λ (n : ℤ). record { 0 = n }) (λ x. refl) (λ n. refl) numbers

texts_by_word : text_relation ≡ (λ (s t : ShortText). word_relation s.word t.word)
texts_by_word = λ i s t. as_words s.word t.word i

texts : Lawful text_relation uncounted
texts =
    subst (λ (R : ShortText → ShortText → Relation). Lawful R uncounted) (sym texts_by_word)
    (held (λ (t : ShortText). t.word) (λ (w : ℕ). record { word = w }) (λ t. refl) (λ w. refl) words)

same : (x : Mixed) → mixed_relation x x ≡ Equal
same (Number a) = numbers.same a
same (Text s) = texts.same s

equal : (x y : Mixed) → mixed_relation x y ≡ Equal → x ≡ y
equal (Number a) (Number b) h = ap Number (numbers.equal a b h)
equal (Number a) (Text t) h = cc
equal (Text s) (Number b) h = cc
equal (Text s) (Text t) h = ap Text (texts.equal s t h)

turns : (x y : Mixed) → mixed_relation y x ≡ turned (mixed_relation x y)
turns (Number a) (Number b) = numbers.turns a b
turns (Number a) (Text t) = refl
turns (Text s) (Number b) = refl
turns (Text s) (Text t) = texts.turns s t

families : (x y z : Mixed) → Related (mixed_relation x y) → Related (mixed_relation y z) → Related (mixed_relation x z)
families (Number a) (Number b) (Number c) h k = numbers.families a b c h k
families (Number a) (Number b) (Text u) h k = k
families (Number a) (Text t) z h k = elim h [ ]
families (Text s) (Number b) z h k = elim h [ ]
families (Text s) (Text t) (Number c) h k = k
families (Text s) (Text t) (Text u) h k = texts.families s t u h k

before : (x y z : Mixed) → mixed_relation x y ≡ Before → mixed_relation y z ≡ Before → mixed_relation x z ≡ Before
before (Number a) (Number b) (Number c) h k = numbers.before a b c h k
before (Number a) (Number b) (Text u) h k = k
before (Number a) (Text t) z h k = cc
before (Text s) (Number b) z h k = cc
before (Text s) (Text t) (Number c) h k = k
before (Text s) (Text t) (Text u) h k = texts.before s t u h k

sized : (x y : Mixed) (n : ℕ) → mixed_size x y ≡ Some n → AtOrBefore (mixed_relation x y)
sized (Number a) (Number b) n h = numbers.sized a b n h
sized (Number a) (Text t) n h = cc
sized (Text s) (Number b) n h = cc
sized (Text s) (Text t) n h = cc

fits : (x y : Mixed) (n : ℕ) → mixed_size x y ≡ Some n → n < 2 ^ 64
fits (Number a) (Number b) n h = numbers.fits a b n h
fits (Number a) (Text t) n h = cc
fits (Text s) (Number b) n h = cc
fits (Text s) (Text t) n h = cc

-- the values between two numbers are numbers
counts : (x y : Mixed) (n : ℕ) → mixed_size x y ≡ Some n → Counts mixed_relation x y n
counts (Number a) (Number b) n h =
    let k = numbers.counts a b n h in
    record {
      nth = λ i l. Number (k.nth i l);
      from_low = k.from_low;
      to_high = k.to_high;
      once = λ i j l m e. k.once i j l m (cc);
      every = λ x. elim x as (λ v. AtOrBefore (mixed_relation (Number a) v) → AtOrBefore (mixed_relation v (Number b)) → (i : ℕ) × ((l : i < n) × (Number (k.nth i l) ≡ v))) [
        | Number y ↦ λ p q. let f = k.every y p q in (f.0, (f.1.0, ap Number f.1.1))
        | Text y ↦ λ p q. elim p [ ]
      ];
    }
counts (Number a) (Text t) n h = cc
counts (Text s) (Number b) n h = cc
counts (Text s) (Text t) n h = cc

pub mixed : Lawful mixed_relation mixed_size
mixed = record { same = same; equal = equal; turns = turns; families = families; before = before; sized = sized; fits = fits; counts = counts }
