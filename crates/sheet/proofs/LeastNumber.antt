-- The chain of causes gives the least number. Assumes nothing.
use Rattle.std.proofs.Common.{◌≡◌, ℕ, zero, suc, ◌+◌, ◌≤◌, Bool, true, false, not, ◌⊎◌, Some, None, Ok, Err, Option, Result, sym, refl, ap, ◌∙◌, subst, inl, inr, ⊎_elim, arith}
use Rattle.std.specs.Option.{option_map, option_or}
use Rattle.std.proofs.lemmas.Bool.{eq-eqb, cases_eq}
use Rattle.keys.specs.declared.Relation.{Relation}
use Rattle.questions.specs.declared.figures.Figure.{Figure}
use Rattle.questions.specs.Questions.{Question}
use Rattle.sheet.specs.declared.refusals.Refusal.{Refusal}
use Rattle.sheet.specs.declared.refusals.Refusal.TheVariants.{NodeMemory, Child, Count, KeyIndex, Width, ColumnMemory, Rows, Bytes, Column}
use Rattle.sheet.specs.RefusalNumbers.{refusal_number}
use Rattle.sheet.specs.Sheets.{Sheet}
use Rattle.sheet.specs.Calls.{Order, Call, order, cut}
use Rattle.sheet.specs.Causes.{unless, early_refusal, laid_unsound, order_refusal, cut_refusal}
use Rattle.sheet.specs.Steps.{answered, settled, step}
use Rattle.sheet.specs.Reads.{Reading, reading_at, read_refusal, read_answer}
use Rattle.sheet.specs.Least.{other_than, order_clear, cut_clear, read_clear, clear, Least}

-- ---- refusals by number
abbrev by_number : ℕ → Refusal
by_number zero = NodeMemory
by_number (suc zero) = NodeMemory
by_number (suc (suc zero)) = Child
by_number (suc (suc (suc zero))) = Count
by_number (suc (suc (suc (suc zero)))) = KeyIndex
by_number (suc (suc (suc (suc (suc zero))))) = Width
by_number (suc (suc (suc (suc (suc (suc zero)))))) = ColumnMemory
by_number (suc (suc (suc (suc (suc (suc (suc zero))))))) = Rows
by_number (suc (suc (suc (suc (suc (suc (suc (suc n)))))))) = Bytes

numbered : (r : Refusal) → refusal_number r ≤ 8 → by_number (refusal_number r) ≡ r
numbered NodeMemory h = refl
numbered Child h = refl
numbered Count h = refl
numbered KeyIndex h = refl
numbered Width h = refl
numbered ColumnMemory h = refl
numbered Rows h = refl
numbered Bytes h = refl
numbered (Column i) h = absurd (omega arith)

same_number : (q r : Refusal) → refusal_number r ≤ 8 → refusal_number q ≡ refusal_number r → q ≡ r
same_number q r h e = sym (numbered q (omega (arith, e))) ∙ ap by_number e ∙ numbered r h

-- ---- the chain, from a number on
module _ (clear : Refusal → Bool) where
  pub record From (k : ℕ) (o : Option Refusal) : Type 0 where
    pub caused : (r : Refusal) → o ≡ Some r → clear r ≡ false
    pub least : (r q : Refusal) → o ≡ Some r → clear q ≡ false → k ≤ refusal_number q → refusal_number r ≤ refusal_number q
    pub free : o ≡ None → (q : Refusal) → k ≤ refusal_number q → clear q ≡ true

  some_same : (x r : Refusal) → Some x ≡ Some r → x ≡ r
  some_same x r e = cc

  here_or_above : (r q : Refusal) → refusal_number r ≤ 8 → refusal_number r ≤ refusal_number q → (q ≡ r) ⊎ (refusal_number r + 1 ≤ refusal_number q)
  here_or_above r q h l = ⊎_elim (λ e. inl (same_number q r h e)) (λ n. inr (omega (arith, n))) (cases_eq (refusal_number q) (refusal_number r))

  one_more : (r : Refusal) (b : Bool) (next : Option Refusal) → clear r ≡ b → refusal_number r ≤ 8 → From (refusal_number r + 1) next → From (refusal_number r) (unless b r next)
  one_more r true next e h f = record {
    caused = f.caused;
    least = λ x q i c l. ⊎_elim (λ s. let z = sym (ap clear s ∙ e) ∙ c in cc) (λ a. f.least x q i c a) (here_or_above r q h l);
    free = λ i q l. ⊎_elim (λ s. ap clear s ∙ e) (λ a. f.free i q a) (here_or_above r q h l);
  }
  one_more r false next e h f = record {
    caused = λ x i. ap clear (sym (some_same r x i)) ∙ e;
    least = λ x q i c l. subst (λ (y : Refusal). refusal_number y ≤ refusal_number q) (some_same r x i) l;
    free = λ i q l. cc;
  }

  -- the laid columns come last
  last : (u : Option ℕ) → ((i : ℕ) → clear (Column i) ≡ other_than i u) → From 9 (option_map Column u)
  last (Some j) e = record {
    caused = λ r i. ap clear (sym (some_same (Column j) r i)) ∙ e j ∙ ap not (eq-eqb j j refl);
    least = λ r q i c l. subst (λ (y : Refusal). refusal_number y ≤ refusal_number q) (some_same (Column j) r i) l;
    free = λ i q l. cc;
  }
  last None e = record {
    caused = λ r i. cc;
    least = λ r q i c l. cc;
    free = λ i q l. last_clear q l;
  }
    where
      last_clear : (q : Refusal) → 9 ≤ refusal_number q → clear q ≡ true
      last_clear NodeMemory l = absurd (omega arith)
      last_clear Child l = absurd (omega arith)
      last_clear Count l = absurd (omega arith)
      last_clear KeyIndex l = absurd (omega arith)
      last_clear Width l = absurd (omega arith)
      last_clear ColumnMemory l = absurd (omega arith)
      last_clear Rows l = absurd (omega arith)
      last_clear Bytes l = absurd (omega arith)
      last_clear (Column i) l = e i

  abbrev pub chain : Option ℕ → Option Refusal
  chain u =
      unless (clear NodeMemory) NodeMemory
      (unless (clear Child) Child
      (unless (clear Count) Count
      (unless (clear KeyIndex) KeyIndex
      (unless (clear Width) Width
      (unless (clear ColumnMemory) ColumnMemory (unless (clear Rows) Rows (unless (clear Bytes) Bytes (option_map Column u))))))))

  pub chain_from : (u : Option ℕ) → ((i : ℕ) → clear (Column i) ≡ other_than i u) → From 1 (chain u)
  chain_from u e =
      one_more NodeMemory (clear NodeMemory) _ refl (omega arith)
      (one_more Child (clear Child) _ refl (omega arith)
      (one_more Count (clear Count) _ refl (omega arith)
      (one_more KeyIndex (clear KeyIndex) _ refl (omega arith)
      (one_more Width (clear Width) _ refl (omega arith)
      (one_more ColumnMemory (clear ColumnMemory) _ refl (omega arith)
      (one_more Rows (clear Rows) _ refl (omega arith)
      (one_more Bytes (clear Bytes) _ refl (omega arith) (last u e))))))))

-- ---- the refusal of a call is its chain
push_6 : (a b c d e f : Bool) (rest : Option Refusal) → option_or (unless a NodeMemory (unless b Child (unless c Count (unless d KeyIndex (unless e Width (unless f ColumnMemory None)))))) rest ≡ unless a NodeMemory (unless b Child (unless c Count (unless d KeyIndex (unless e Width (unless f ColumnMemory rest)))))
push_6 false b c d e f rest = refl
push_6 true false c d e f rest = refl
push_6 true true false d e f rest = refl
push_6 true true true false e f rest = refl
push_6 true true true true false f rest = refl
push_6 true true true true true false rest = refl
push_6 true true true true true true rest = refl

push_2 : (a b : Bool) (rest : Option Refusal) → option_or (unless a Rows (unless b Bytes None)) rest ≡ unless a Rows (unless b Bytes rest)
push_2 false b rest = refl
push_2 true false rest = refl
push_2 true true rest = refl

from_1 : (q : Refusal) → 1 ≤ refusal_number q
from_1 NodeMemory = omega arith
from_1 Child = omega arith
from_1 Count = omega arith
from_1 KeyIndex = omega arith
from_1 Width = omega arith
from_1 ColumnMemory = omega arith
from_1 Rows = omega arith
from_1 Bytes = omega arith
from_1 (Column i) = omega arith

-- an answer by the chain
err_same : {A : Type 0} (x r : Refusal) → ◌≡◌ {A = Result A Refusal} (Err x) (Err r) → x ≡ r
err_same x r e = cc

no_answer : {A B : Type 0} {x : Refusal} {a : A} → ◌≡◌ {A = Result A Refusal} (Err x) (Ok a) → B
no_answer e = cc

pub refusal_least : {A : Type 0} (clear : Refusal → Bool) (o : Option Refusal) → From clear 1 o → (ok : A) (answer : Result A Refusal) → answer ≡ answered o ok → Least clear answer
refusal_least clear (Some x) f ok answer e = record {
  caused = λ r i. f.caused r (ap Some (err_same x r (sym e ∙ i)));
  least = λ r q i c. f.least r q (ap Some (err_same x r (sym e ∙ i))) c (from_1 q);
  free = λ a i. no_answer (sym e ∙ i);
}
refusal_least clear None f ok answer e = record {
  caused = λ r i. no_answer (sym i ∙ e);
  least = λ r q i c. no_answer (sym i ∙ e);
  free = λ a i q. f.free refl q (from_1 q);
}

module _ {K : Type 0} (relation : K → K → Relation) (estimate : Question K → Option Figure) where
  order_chain : (s : Sheet K) (o : Order K) → order_refusal relation estimate s o ≡ chain (order_clear relation estimate s o) (laid_unsound relation o)
  order_chain s o =
      ap (option_or (early_refusal relation s o)) (push_2 (order_clear relation estimate s o Rows) (order_clear relation estimate s o Bytes) (option_map Column (laid_unsound relation o))) ∙
      push_6 (order_clear relation estimate s o NodeMemory) (order_clear relation estimate s o Child) (order_clear relation estimate s o Count) (order_clear relation estimate s o KeyIndex) (order_clear relation estimate s o Width) (order_clear relation estimate s o ColumnMemory) _

  settled_answer : (o : Option Refusal) (s t : Sheet K) → (settled o s t).answer ≡ answered o t.head.count
  settled_answer (Some r) s t = refl
  settled_answer None s t = refl

  -- a call gives the least number that has a cause
  pub step_least : (c : Call K) (s : Sheet K) (answer : Result ℕ Refusal) → answer ≡ (step relation estimate c s).answer → Least (clear relation estimate c s) answer
  step_least (order o) s answer e =
      refusal_least (order_clear relation estimate s o) (order_refusal relation estimate s o)
      (subst (From (order_clear relation estimate s o) 1) (sym (order_chain s o)) (chain_from (order_clear relation estimate s o) (laid_unsound relation o) (λ i. refl)))
      _ answer (e ∙ settled_answer (order_refusal relation estimate s o) s _)
  step_least (cut n) s answer e =
      refusal_least (cut_clear s n) (cut_refusal s n) (chain_from (cut_clear s n) None (λ i. refl)) _ answer (e ∙ settled_answer (cut_refusal s n) s _)

  -- and so does reading a node
  pub read_least : (s : Sheet K) (n : ℕ) (answer : Result (Reading K) Refusal) → answer ≡ read_answer relation s n → Least (read_clear relation s n) answer
  read_least s n answer e =
      refusal_least (read_clear relation s n) (read_refusal relation s n) (chain_from (read_clear relation s n) None (λ i. refl)) (reading_at s n) answer e
